use Rattle.std.proofs.Common.{refl}
use Rattle.kc_asm_origin.proofs.Uses.{starts}
use Rattle.kc_asm_origin.proofs.names.Search.new.Goals as goal

pub returns : goal.returns
returns c = λ uses whole known. starts _ c.args.line c.args.code uses whole refl refl refl known c.new.ensures

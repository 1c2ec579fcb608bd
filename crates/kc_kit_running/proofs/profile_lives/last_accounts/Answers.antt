use Rattle.std.proofs.Common.{◌++◌, ◌∷◌, [], ◌∙◌, ap, length-append, arith}
use Rattle.kc_kit_running.specs.Profiled.{known}
use Rattle.kc_kit_running.proofs.SumLemmas.{cover-next, profile-next, sums-behind}
use Rattle.kc_kit_running.proofs.profile_lives.last_accounts.Goals as goal

pub returns : goal.returns
returns c = λ lives one number sum count e f.
    let k = known c.args.lines.now in
    let long = length-append lives (one ∷ []) in
    let profile = profile-next k c.args.life lives one _ _ _ _ number count e c.in_ok-account_for.ensures.profile in
    let cover = cover-next k c.args.life lives one _ _ _ _ number count f c.in_ok-account_for.ensures.cover in
    let all = sums-behind k c.args.life (lives ++ one ∷ []) _ _ _ _ (omega (arith, number, long)) (c.in_ok-account_for.ensures.sums lives one number sum count) profile c.in_ok-put_sums.ensures.profile in
    let same = ap (λ v. v.items) c.put_sums.ensures.cover in
    λ i. record { profile = all i; cover = (same ∙ cover) i }

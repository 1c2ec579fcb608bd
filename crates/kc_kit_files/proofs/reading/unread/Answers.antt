use Rattle.std.proofs.Common.{◌≡◌, ◌++◌, sym, subst}
use Rattle.std.specs.Prelude.{codes}
use Rattle.kc_kit_files.specs.Shown.{shown}
use Rattle.kc_kit_files.specs.declared.status.Status.TheVariants as status
use Rattle.kc_kit_files.specs.Response.{reports, IsRefused}
use Rattle.kc_kit_files.specs.Reads.{IsUnread}
use Rattle.kc_kit_files.proofs.reading.unread.Goals as goal

pub returns-in-Missing : goal.returns-in-Missing
returns-in-Missing c =
    let reported = subst (λ n. IsRefused (λ response. response ≡ reports status.Missing (codes "missing " ++ n ++ codes "\n") (shown n ++ codes ": error: the file is not there\n")) c.refused.result) c.as_bytes-name.ensures.value c.refused.ensures in
    subst (λ f. IsRefused (IsUnread c.args.name.now f) c.refused.result) (sym c.in-Missing.is) reported

pub returns-in-TooLong : goal.returns-in-TooLong
returns-in-TooLong c =
    let reported = subst (λ n. IsRefused (λ response. response ≡ reports status.Input (codes "input " ++ n ++ codes ":0: LONG\n") (shown n ++ codes ": error LONG: the file has over 1,048,576 bytes\n")) c.refused-in-TooLong.result) c.as_bytes-name.ensures.value c.refused-in-TooLong.ensures in
    subst (λ f. IsRefused (IsUnread c.args.name.now f) c.refused-in-TooLong.result) (sym c.in-TooLong.is) reported

pub returns-in-Failed : goal.returns-in-Failed
returns-in-Failed c =
    let reported = subst (λ n. IsRefused (λ response. response ≡ reports status.ReadFault (codes "read " ++ n ++ codes "\n") (shown n ++ codes ": error: the file could not be read\n")) c.refused-in-Failed.result) c.as_bytes-name.ensures.value c.refused-in-Failed.ensures in
    subst (λ f. IsRefused (IsUnread c.args.name.now f) c.refused-in-Failed.result) (sym c.in-Failed.is) reported

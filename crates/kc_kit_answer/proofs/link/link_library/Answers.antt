use Rattle.std.proofs.Common.{ℕ, List, ◌≡◌, ◌++◌, ◌∙◌, ap, sym, subst, drop, length, map, string_bytes, Ok, Err}
use Rattle.std.proofs.Math.Seq.{drop-append_seam}
use Rattle.kc_kit_files.specs.Response.{Response, IsRefused}
use Rattle.kc_kit_inputs.specs.Library.{TakenAre}
use Rattle.kc_kit_words.specs.Asked.{beside_in}
use Rattle.kc_kit_answer.specs.Jobs.{IsPrepared}
use Rattle.kc_kit_messages.specs.Rules.{member_words}
use Rattle.kc_kit_answer.specs.Link.{LinksTo}
use Rattle.kc_kit_answer.specs.Places.{Placing}
use Rattle.kc_kit_answer.proofs.AnswerSteps.{taking-refused, taking-prepared}
use Rattle.kc_kit_answer.proofs.link.link_library.Goals as goal

pub returns-in-Err-take_members : goal.returns-in-Err-take_members
returns-in-Err-take_members c =
    let link = c.args.link.now in
    let library : List ℕ × List ℕ = (c.args.name.now, c.args.bytes.now) in
    let beside = beside_in link.beside in
    taking-refused (map string_bytes link.files.now) library (λ files. Placing files link.placing (LinksTo link.out.now beside link.placing)) c.args.modules.items c.in-Ok.library c.in-Err-take_members.refusal c.in-Ok.ensures.library
    (subst (λ ms. IsRefused (λ (response : Response). TakenAre c.args.name.now ms c.in-Ok.library (Err response)) c.in-Err-take_members.refusal) c.deref.ensures.value c.in-Err-take_members.ensures.refusal)

pub returns : goal.returns
returns c =
    let link = c.args.link.now in
    let names = map string_bytes link.files.now in
    let library : List ℕ × List ℕ = (c.args.name.now, c.args.bytes.now) in
    let beside = beside_in link.beside in
    let ms = c.args.modules.items in
    let taken = c.in-Ok-take_members.taken.items in
    let behind : c.split_at.result.1.now ≡ taken =
    c.split_at.ensures.back ∙ ap (drop (length link.files.now)) (c.deref-2.ensures.value ∙ c.in-Ok-joined.ensures) ∙ ap (λ n. drop n (ms ++ taken)) (sym c.requires.count) ∙ drop-append_seam ms taken in
    taking-prepared names library (λ files. Placing files link.placing (LinksTo link.out.now beside link.placing)) ms c.in-Ok.library taken c.link_modules.result c.in-Ok.ensures.library
    (subst (λ l. TakenAre c.args.name.now l c.in-Ok.library (Ok taken)) c.deref.ensures.value c.in-Ok-take_members.ensures.taken)
    (subst (λ l. IsPrepared (Placing (names ++ member_words c.args.name.now l) link.placing (LinksTo link.out.now beside link.placing) (ms ++ taken)) c.link_modules.result) behind
    (subst (λ l. IsPrepared (Placing (names ++ member_words c.args.name.now c.split_at.result.1.now) link.placing (LinksTo link.out.now beside link.placing) l) c.link_modules.result) (c.deref-3.ensures.value ∙ c.in-Ok-joined.ensures) c.link_modules.ensures))

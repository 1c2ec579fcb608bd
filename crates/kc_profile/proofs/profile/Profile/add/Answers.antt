use Rattle.std.proofs.Common.{◌≡◌, ℕ, ◌+◌, ◌<◌, List, length, rules, sym, ap, subst, ◌∙◌}
use Rattle.std.specs.Prelude.{slice_index, slice_set}
use Rattle.std.proofs.lemmas.List.{with_items_is}
use Rattle.kc_profile.specs.Tally.{Tally, IsTallyOf}
use Rattle.kc_profile.proofs.Numbers.{tally-raised, add-address, add-entry, add-server, add-idle}
use Rattle.kc_profile.proofs.profile.Profile.add.Goals as goal

pub returns-in-At-clause-tally : goal.returns-in-At-clause-tally
returns-in-At-clause-tally c = λ before is.
    let t : Tally = record { at = c.self.inside.at.items; entries = c.self.inside.entries; server = c.self.inside.server; idle = c.self.inside.idle } in
    let inside : c.in-At.addr < length t.at = search rules in
    let set : c.raise.new.numbers ≡ slice_set t.at c.from.result (slice_index t.at c.from.result + c.args.states) = c.raise.ensures ∙ ap (λ (ys : List ℕ). slice_set ys c.from.result (slice_index ys c.from.result + c.args.states)) c.deref_mut.ensures.value in
    let long : length c.raise.new.numbers ≡ c.self.inside.at.len = search rules in
    let kept = with_items_is c.self.inside.at c.raise.new.numbers long in
    tally-raised c.args.spot c.args.states t _ (add-address t c.args.spot _ c.in-At.addr c.from.result c.args.states c.in-At.is c.from.ensures inside (kept ∙ set)) before
    (subst (IsTallyOf before) (sym c.self.view_is) is)

pub returns-in-Entry-clause-tally : goal.returns-in-Entry-clause-tally
returns-in-Entry-clause-tally c = λ before is.
    let t : Tally = record { at = c.self.inside.at.items; entries = c.self.inside.entries; server = c.self.inside.server; idle = c.self.inside.idle } in
    let inside : c.in-Entry.number < length t.entries = search rules in
    tally-raised c.args.spot c.args.states t _ (add-entry t c.args.spot c.raise-in-Entry.new.numbers c.in-Entry.number c.from-in-Entry.result c.args.states c.in-Entry.is c.from-in-Entry.ensures inside c.raise-in-Entry.ensures) before
    (subst (IsTallyOf before) (sym c.self.view_is) is)

pub returns-in-Server-clause-tally : goal.returns-in-Server-clause-tally
returns-in-Server-clause-tally c = λ before is.
    let t : Tally = record { at = c.self.inside.at.items; entries = c.self.inside.entries; server = c.self.inside.server; idle = c.self.inside.idle } in
    let inside : c.in-Server.number < length t.server = search rules in
    tally-raised c.args.spot c.args.states t _ (add-server t c.args.spot c.raise-in-Server.new.numbers c.in-Server.number c.from-in-Server.result c.args.states c.in-Server.is c.from-in-Server.ensures inside c.raise-in-Server.ensures) before
    (subst (IsTallyOf before) (sym c.self.view_is) is)

pub returns-in-Idle-clause-tally : goal.returns-in-Idle-clause-tally
returns-in-Idle-clause-tally c = λ before is.
    let t : Tally = record { at = c.self.inside.at.items; entries = c.self.inside.entries; server = c.self.inside.server; idle = c.self.inside.idle } in
    tally-raised c.args.spot c.args.states t _ (add-idle t c.args.spot c.args.states c.in-Idle.is) before (subst (IsTallyOf before) (sym c.self.view_is) is)

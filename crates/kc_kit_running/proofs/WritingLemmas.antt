-- A file that is written.
use Rattle.std.proofs.Common.{◌≡◌, ◌≢◌, ◌⊎◌, inl, inr, ℕ, ◌≤◌, List, [], ◌∷◌, ◌++◌, refl, sym, subst, arith}
use Rattle.kc_base.specs.Causes.{Rose}
use Rattle.kc_kit_files.specs.declared.status.Status.{Status}
use Rattle.kc_kit_files.specs.declared.status.Status.TheVariants as status
use Rattle.kc_kit_files.specs.declared.ended.Said.{Said}
use Rattle.kc_kit_files.specs.declared.ended.Said.TheVariants as said
use Rattle.kc_kit_files.specs.Response.{Write}
use Rattle.kc_kit_files.specs.declared.ended.Ended.{Ended}
use Rattle.kc_kit_files.specs.Outside.{Kept, WroteOne, OthersStay, Wrote, WroteByPart, RefusedAt}
use Rattle.kc_kit_running.specs.Writing.{IsRefusedAt, AreWrittenBy, AreWritten}

-- the file that is said has this name
abbrev pub IsNamed : Said → List ℕ → Type 0
IsNamed (said.File name) file = file ≡ name.now
IsNamed _ file = ⊥

refused-first : (old new : Kept) (w : Write) (what : Said) → IsNamed what w.name → OthersStay old.held w.name new.held → Rose old.faults new.faults → IsRefusedAt what old (w ∷ []) new
refused-first old new w (said.File name) is others rose = (rose, inl (is, others))
refused-first old new w said.Nothing is others rose = absurd is
refused-first old new w (said.Refusal diagnostic) is others rose = absurd is

pub written-one : (old new : Kept) (w : Write) (given : Status) (what : Said) → IsNamed what w.name → (given ≡ status.Done) ⊎ ((given ≡ status.WriteFault) ⊎ (given ≡ status.NoMemory)) → (given ≡ status.Done → WroteOne old.held w new.held) →
    OthersStay old.held w.name new.held → (given ≡ status.WriteFault → Rose old.faults new.faults) → AreWrittenBy old (w ∷ []) given what new
written-one old new w given what is (inl e) one others rose = subst (λ s. AreWrittenBy old (w ∷ []) s what new) (sym e) (new, one e, refl)
written-one old new w given what is (inr (inl e)) one others rose = subst (λ s. AreWrittenBy old (w ∷ []) s what new) (sym e) (refused-first old new w what is others (rose e))
written-one old new w given what is (inr (inr e)) one others rose = subst (λ s. AreWrittenBy old (w ∷ []) s what new) (sym e) (inl others)

-- ---- some files, and then others

rose-later : (a b c : ℕ) → a ≤ b → Rose b c → Rose a c
rose-later a b c h r = omega (arith, r)

wrote-append : (old mid new : Kept) (ws us : List Write) → Wrote old ws mid → Wrote mid us new → Wrote old (ws ++ us) new
wrote-append old mid new [] us all h = subst (λ (k : Kept). Wrote k us new) all h
wrote-append old mid new (w ∷ ws) us all h = (all.0, all.1, wrote-append all.0 mid new ws us all.2 h)

part-behind : (old mid new : Kept) (ws us : List Write) → Wrote old ws mid → WroteByPart mid us new → WroteByPart old (ws ++ us) new
part-behind old mid new [] us all h = subst (λ (k : Kept). WroteByPart k us new) all h
part-behind old mid new (w ∷ ws) us all h = inr (all.0, all.1, part-behind all.0 mid new ws us all.2 h)

part-prefix : (old new : Kept) (ws us : List Write) → WroteByPart old ws new → WroteByPart old (ws ++ us) new
part-prefix old new [] us h = absurd h
part-prefix old new (w ∷ ws) us (inl h) = inl h
part-prefix old new (w ∷ ws) us (inr h) = inr (h.0, h.1, part-prefix h.0 new ws us h.2)

at-behind : (name : List ℕ) (old mid new : Kept) (ws us : List Write) → Wrote old ws mid → RefusedAt name mid us new → RefusedAt name old (ws ++ us) new
at-behind name old mid new [] us all h = subst (λ (k : Kept). RefusedAt name k us new) all h
at-behind name old mid new (w ∷ ws) us all h = inr (all.0, all.1, at-behind name all.0 mid new ws us all.2 h)

at-prefix : (name : List ℕ) (old new : Kept) (ws us : List Write) → RefusedAt name old ws new → RefusedAt name old (ws ++ us) new
at-prefix name old new [] us h = absurd h
at-prefix name old new (w ∷ ws) us (inl h) = inl h
at-prefix name old new (w ∷ ws) us (inr h) = inr (h.0, h.1, at-prefix name h.0 new ws us h.2)

refused-behind : (old mid new : Kept) (ws us : List Write) (what : Said) → Wrote old ws mid → old.faults ≤ mid.faults → IsRefusedAt what mid us new → IsRefusedAt what old (ws ++ us) new
refused-behind old mid new ws us (said.File name) all later h = (rose-later old.faults mid.faults new.faults later h.0, at-behind name.now old mid new ws us all h.1)
refused-behind old mid new ws us said.Nothing all later h = absurd h
refused-behind old mid new ws us (said.Refusal diagnostic) all later h = absurd h

refused-prefix : (old new : Kept) (ws us : List Write) (what : Said) → IsRefusedAt what old ws new → IsRefusedAt what old (ws ++ us) new
refused-prefix old new ws us (said.File name) h = (h.0, at-prefix name.now old new ws us h.1)
refused-prefix old new ws us said.Nothing h = absurd h
refused-prefix old new ws us (said.Refusal diagnostic) h = absurd h

by-behind : (old mid new : Kept) (ws us : List Write) (given : Status) (what : Said) → Wrote old ws mid → old.faults ≤ mid.faults → AreWrittenBy mid us given what new → AreWrittenBy old (ws ++ us) given what new
by-behind old mid new ws us status.Done what all later h = wrote-append old mid new ws us all h
by-behind old mid new ws us status.WriteFault what all later h = refused-behind old mid new ws us what all later h
by-behind old mid new ws us status.NoMemory what all later h = part-behind old mid new ws us all h
by-behind old mid new ws us status.Usage what all later h = absurd h
by-behind old mid new ws us status.Missing what all later h = absurd h
by-behind old mid new ws us status.Source what all later h = absurd h
by-behind old mid new ws us status.Input what all later h = absurd h
by-behind old mid new ws us status.Link what all later h = absurd h
by-behind old mid new ws us status.Undefined what all later h = absurd h
by-behind old mid new ws us status.ReadFault what all later h = absurd h
by-behind old mid new ws us status.Broken what all later h = absurd h

by-prefix : (old new : Kept) (ws us : List Write) (given : Status) (what : Said) → given ≢ status.Done → AreWrittenBy old ws given what new → AreWrittenBy old (ws ++ us) given what new
by-prefix old new ws us status.Done what is_not h = absurd (is_not refl)
by-prefix old new ws us status.WriteFault what is_not h = refused-prefix old new ws us what h
by-prefix old new ws us status.NoMemory what is_not h = part-prefix old new ws us h
by-prefix old new ws us status.Usage what is_not h = absurd h
by-prefix old new ws us status.Missing what is_not h = absurd h
by-prefix old new ws us status.Source what is_not h = absurd h
by-prefix old new ws us status.Input what is_not h = absurd h
by-prefix old new ws us status.Link what is_not h = absurd h
by-prefix old new ws us status.Undefined what is_not h = absurd h
by-prefix old new ws us status.ReadFault what is_not h = absurd h
by-prefix old new ws us status.Broken what is_not h = absurd h

-- some are written, and then others
pub written-behind : (old mid new : Kept) (ws us : List Write) (first ended : Ended) → first.status ≡ status.Done → AreWritten old ws first mid → old.faults ≤ mid.faults → AreWritten mid us ended new → AreWritten old (ws ++ us) ended new
written-behind old mid new ws us first ended is all later h = record {
  written = by-behind old mid new ws us ended.status ended.said (subst (λ s. AreWrittenBy old ws s first.said mid) is all.written) later h.written;
  silent = h.silent;
}

-- one of some is refused, and the others are not written
pub written-prefix : (old new : Kept) (ws us : List Write) (ended : Ended) → ended.status ≢ status.Done → AreWritten old ws ended new → AreWritten old (ws ++ us) ended new
written-prefix old new ws us ended is_not h = record { written = by-prefix old new ws us ended.status ended.said is_not h.written; silent = h.silent }

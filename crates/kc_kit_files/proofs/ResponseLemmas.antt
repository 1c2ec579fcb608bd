-- What is printed and written for a response.
use Rattle.std.proofs.Common.{◌≡◌, ◌≢◌, ◌⊎◌, inl, inr, refl, sym, subst}
use Rattle.std.specs.List.{Any}
use Rattle.kc_base.specs.Causes.{Grew}
use Rattle.kc_kit_files.specs.declared.status.Status.{Status}
use Rattle.kc_kit_files.specs.declared.status.Status.TheVariants as status
use Rattle.kc_kit_files.specs.declared.refusal.Refusal.{Refusal}
use Rattle.kc_kit_files.specs.declared.refusal.Refusal.TheVariants as refusals
use Rattle.kc_kit_files.specs.Response.{Response, IsRefused, IsSaid}
use Rattle.kc_kit_files.specs.Outside.{Kept, Shown, WroteByPart, IsGiven, Responses}

pub given-widen : (may wide : Response → Type 0) (given : Status) (old : Kept) (before : Shown) (new : Kept) (now : Shown) → ((r : Response) → may r → wide r) → IsGiven may given old before new now → IsGiven wide given old before new now
given-widen may wide given old before new now f h = record { response = h.response; is_answer = f h.response h.is_answer; status = h.status; text = h.text; files = h.files }

-- what may be answered may be answered
pub Responses-widen : (may wide : Response → Type 0) (old : Kept) (before : Shown) (given : Status) (new : Kept) (now : Shown) → ((r : Response) → may r → wide r) → Responses may old before given new now → Responses wide old before given new now
Responses-widen may wide old before status.NoMemory new now f h = record { text = so_far h.text; files = by h.files }
  where
    so_far :
        (now.written ≡ before.written) ⊎ ((response : Response) × may response × Any (λ prefix. Grew before.written prefix now.written) response.pauses) →
        (now.written ≡ before.written) ⊎ ((response : Response) × wide response × Any (λ prefix. Grew before.written prefix now.written) response.pauses)
    so_far (inl e) = inl e
    so_far (inr k) = inr (k.0, f k.0 k.1, k.2)

    by : (new ≡ old) ⊎ ((response : Response) × may response × WroteByPart old response.writes new) → (new ≡ old) ⊎ ((response : Response) × wide response × WroteByPart old response.writes new)
    by (inl e) = inl e
    by (inr k) = inr (k.0, f k.0 k.1, k.2)
Responses-widen may wide old before status.WriteFault new now f (inl h) = inl (record { response = h.response; is_answer = f h.response h.is_answer; text = h.text; cause = h.cause; files = h.files })
Responses-widen may wide old before status.WriteFault new now f (inr h) = inr (record { response = h.response; is_answer = f h.response h.is_answer; files = h.files; cause = h.cause; text = h.text })
Responses-widen may wide old before status.Done new now f h = given-widen may wide status.Done old before new now f h
Responses-widen may wide old before status.Usage new now f h = given-widen may wide status.Usage old before new now f h
Responses-widen may wide old before status.Missing new now f h = given-widen may wide status.Missing old before new now f h
Responses-widen may wide old before status.Source new now f h = given-widen may wide status.Source old before new now f h
Responses-widen may wide old before status.Input new now f h = given-widen may wide status.Input old before new now f h
Responses-widen may wide old before status.Link new now f h = given-widen may wide status.Link old before new now f h
Responses-widen may wide old before status.Undefined new now f h = given-widen may wide status.Undefined old before new now f h
Responses-widen may wide old before status.ReadFault new now f h = given-widen may wide status.ReadFault old before new now f h
Responses-widen may wide old before status.Broken new now f h = given-widen may wide status.Broken old before new now f h

-- a response that is given whole
pub Responses-given : (may : Response → Type 0) (given : Status) (old : Kept) (before : Shown) (new : Kept) (now : Shown) → given ≢ status.WriteFault → given ≢ status.NoMemory → IsGiven may given old before new now → Responses may old before given new now
Responses-given may status.NoMemory old before new now f g h = absurd (g refl)
Responses-given may status.WriteFault old before new now f g h = absurd (f refl)
Responses-given may status.Done old before new now f g h = h
Responses-given may status.Usage old before new now f g h = h
Responses-given may status.Missing old before new now f g h = h
Responses-given may status.Source old before new now f g h = h
Responses-given may status.Input old before new now f g h = h
Responses-given may status.Link old before new now f g h = h
Responses-given may status.Undefined old before new now f g h = h
Responses-given may status.ReadFault old before new now f g h = h
Responses-given may status.Broken old before new now f g h = h

-- the response of a refusal that may be given
pub said-refused : (may : Response → Type 0) (refusal : Refusal) → IsRefused may refusal → (r : Response) → IsSaid refusal r → may r
said-refused may (refusals.Says cause line diagnostic) h r e = subst may (sym e) h
said-refused may refusals.NoMemory h r e = absurd e

-- what a response is that a status other than those of faults gives
pub given-of : (may : Response → Type 0) (given : Status) (old : Kept) (before : Shown) (new : Kept) (now : Shown) → given ≢ status.WriteFault → given ≢ status.NoMemory → Responses may old before given new now → IsGiven may given old before new now
given-of may status.NoMemory old before new now f g h = absurd (g refl)
given-of may status.WriteFault old before new now f g h = absurd (f refl)
given-of may status.Done old before new now f g h = h
given-of may status.Usage old before new now f g h = h
given-of may status.Missing old before new now f g h = h
given-of may status.Source old before new now f g h = h
given-of may status.Input old before new now f g h = h
given-of may status.Link old before new now f g h = h
given-of may status.Undefined old before new now f g h = h
given-of may status.ReadFault old before new now f g h = h
given-of may status.Broken old before new now f g h = h

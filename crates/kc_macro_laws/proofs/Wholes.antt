-- What is cut off a text that begins with a whole body or part.
use Rattle.std.proofs.Common.{◌≡◌, ℕ, ◌+◌, ◌==◌, Bool, true, false, not, ◌&&◌, cond, List, [], ◌∷◌, ◌++◌, Option, Some, refl, sym, ap, ◌∙◌, append_assoc, arith}
use Rattle.std.proofs.lemmas.Bool.{and_parts, not-true}
use Rattle.kc_macro_body.specs.declared.words.Word.{Word}
use Rattle.kc_macro_body.specs.declared.words.Word.TheVariants as words
use Rattle.kc_macro_body.specs.Words.{opens_body, is_endm, opens_if, is_endif, is_else}
use Rattle.kc_macro_input.specs.declared.piece.Piece.{Piece}
use Rattle.kc_macro_input.specs.declared.piece.Extent.{Extent}
use Rattle.kc_macro_input.specs.declared.piece.Extent.TheVariants.{Body, Part, Condition}
use Rattle.kc_macro_input.specs.Pieces.{word_at}
use Rattle.kc_macro_input.specs.Cuts.{ends, depth_after, Cut, cut_at, after_piece, second_part, else_part, kept_of, kept}
use Rattle.kc_macro_laws.specs.Nests.{Is, is_beside_bodies, is_beside_ifs, IsWholeBody, EmptyBody, LineAndBody, BodyAndBody, IsWholePart, EmptyPart, LineAndPart, IfAndPart, IfElseAndPart}

-- a text in front of what was cut off
abbrev put_before : List Piece → Option Cut → Option Cut
put_before [] o = o
put_before (p ∷ ps) o = after_piece p (put_before ps o)

put_append : (ps qs : List Piece) (o : Option Cut) → put_before (ps ++ qs) o ≡ put_before ps (put_before qs o)
put_append [] qs o = refl
put_append (p ∷ ps) qs o = ap (after_piece p) (put_append ps qs o)

put_some : (ps : List Piece) (last : Piece) (rest : List Piece) → put_before ps (Some (record { prefix = []; ender = last; rest = rest })) ≡ Some (record { prefix = ps; ender = last; rest = rest })
put_some [] last rest = refl
put_some (p ∷ ps) last rest = ap (after_piece p) (put_some ps last rest)

-- one line, by what its word says
record Passes (e : Extent) (d f : ℕ) (p : Piece) : Type 0 where
  pub on : (ends e (word_at p.tokens) && (d == 0)) ≡ false
  pub depth : depth_after e (word_at p.tokens) d ≡ f

passes_on : (e : Extent) (d f : ℕ) (p : Piece) (ps : List Piece) → Passes e d f p → cut_at e d (p ∷ ps) ≡ after_piece p (cut_at e f ps)
unfolding cut_at
passes_on e d f p ps h = rw (h.on, h.depth) refl

stops : (e : Extent) (p : Piece) (ps : List Piece) → ends e (word_at p.tokens) ≡ true → cut_at e 0 (p ∷ ps) ≡ Some (record { prefix = []; ender = p; rest = ps })
unfolding cut_at
stops e p ps h = rw h refl

-- ---- bodies

beside_body : (d : ℕ) (p : Piece) → Is is_beside_bodies p → Passes Body d d p
beside_body d p h =
    let parts : (not (opens_body (word_at p.tokens)) ≡ true) × (not (is_endm (word_at p.tokens)) ≡ true) = and_parts _ _ h in
    let no_open : opens_body (word_at p.tokens) ≡ false = not-true _ parts.0 in
    let no_end : is_endm (word_at p.tokens) ≡ false = not-true _ parts.1 in
    record { on = rw no_end refl; depth = rw (no_open, no_end) refl }

opens_no_end : (w : Word) → opens_body w ≡ true → is_endm w ≡ false
opens_no_end words.Macro h = refl
opens_no_end words.Rept h = refl
opens_no_end words.Irp h = refl
opens_no_end words.Local h = refl
opens_no_end words.Exitm h = refl
opens_no_end words.Else h = refl
opens_no_end words.Endif h = refl
opens_no_end words.Endm h = absurd (cc)
opens_no_end words.If h = refl
opens_no_end words.End h = refl
opens_no_end words.Other h = refl

end_no_open : (w : Word) → is_endm w ≡ true → opens_body w ≡ false
end_no_open words.Macro h = absurd (cc)
end_no_open words.Rept h = absurd (cc)
end_no_open words.Irp h = absurd (cc)
end_no_open words.Local h = refl
end_no_open words.Exitm h = refl
end_no_open words.Else h = refl
end_no_open words.Endif h = refl
end_no_open words.Endm h = refl
end_no_open words.If h = refl
end_no_open words.End h = refl
end_no_open words.Other h = refl

deeper : (n : ℕ) → (n + 1 == 0) ≡ false
deeper n = grind arith

first_body : (d : ℕ) (p : Piece) → Is opens_body p → Passes Body d (d + 1) p
first_body d p h = record { on = rw (opens_no_end (word_at p.tokens) h) refl; depth = rw h refl }

no_stop : (b : Bool) → (b && false) ≡ false
no_stop true = refl
no_stop false = refl

last_body : (d : ℕ) (p : Piece) → Is is_endm p → Passes Body (d + 1) d p
last_body d p h = record { on = rw (deeper d) (no_stop _); depth = rw (end_no_open (word_at p.tokens) h, h) (omega arith) }

pub body_passes : (d : ℕ) (ps body : List Piece) → IsWholeBody body → cut_at Body d (body ++ ps) ≡ put_before body (cut_at Body d ps)
body_passes d ps _ EmptyBody = refl
body_passes d ps _ (LineAndBody p qs beside h) = passes_on Body d d p (qs ++ ps) (beside_body d p beside) ∙ ap (after_piece p) (body_passes d ps qs h)
body_passes d ps _ (BodyAndBody first last inner qs opened closed h k) =
    ap (λ rest. cut_at Body d (first ∷ rest)) (append_assoc inner (last ∷ qs) ps) ∙ passes_on Body d (d + 1) first (inner ++ (last ∷ (qs ++ ps))) (first_body d first opened)
    ∙ ap (after_piece first) (body_passes (d + 1) (last ∷ (qs ++ ps)) inner h ∙ ap (put_before inner) (passes_on Body (d + 1) d last (qs ++ ps) (last_body d last closed) ∙ ap (after_piece last) (body_passes d ps qs k))
    ∙ sym (put_append inner (last ∷ qs) (cut_at Body d ps)))

-- a body is cut off at its ENDM
pub body_is_cut : (body : List Piece) (last : Piece) (rest : List Piece) → IsWholeBody body → Is is_endm last → cut_at Body 0 (body ++ last ∷ rest) ≡ Some (record { prefix = body; ender = last; rest = rest })
body_is_cut body last rest h closed = body_passes 0 (last ∷ rest) body h ∙ ap (put_before body) (stops Body last rest closed) ∙ put_some body last rest

-- ---- parts

-- a part of an IF, or all up to its ENDIF
abbrev IsOfIf : Extent → Type 0
IsOfIf Body = ⊥
IsOfIf Part = Unit {0}
IsOfIf Condition = Unit {0}

beside_if : (e : Extent) (d : ℕ) (p : Piece) → IsOfIf e → Is is_beside_ifs p → Passes e d d p
beside_if e d p of_if h = kinds e of_if (not-true _ parts.0) (not-true _ (and_parts _ _ parts.1).0) (not-true _ (and_parts _ _ parts.1).1)
  where
    parts : (not (opens_if (word_at p.tokens)) ≡ true) × ((not (is_else (word_at p.tokens)) && not (is_endif (word_at p.tokens))) ≡ true)
    parts = and_parts _ _ h

    kinds : (e : Extent) → IsOfIf e → opens_if (word_at p.tokens) ≡ false → is_else (word_at p.tokens) ≡ false → is_endif (word_at p.tokens) ≡ false → Passes e d d p
    kinds Body of_if a b c = absurd of_if
    kinds Part of_if a b c = record { on = rw (b, c) refl; depth = rw (a, c) refl }
    kinds Condition of_if a b c = record { on = rw c refl; depth = rw (a, c) refl }

if_is : (w : Word) → opens_if w ≡ true → (is_else w ≡ false) × (is_endif w ≡ false)
if_is words.If h = (refl, refl)
if_is words.Macro h = absurd (cc)
if_is words.Rept h = absurd (cc)
if_is words.Irp h = absurd (cc)
if_is words.Local h = absurd (cc)
if_is words.Exitm h = absurd (cc)
if_is words.Else h = absurd (cc)
if_is words.Endif h = absurd (cc)
if_is words.Endm h = absurd (cc)
if_is words.End h = absurd (cc)
if_is words.Other h = absurd (cc)

else_is : (w : Word) → is_else w ≡ true → (opens_if w ≡ false) × (is_endif w ≡ false)
else_is words.Else h = (refl, refl)
else_is words.Macro h = absurd (cc)
else_is words.Rept h = absurd (cc)
else_is words.Irp h = absurd (cc)
else_is words.Local h = absurd (cc)
else_is words.Exitm h = absurd (cc)
else_is words.If h = absurd (cc)
else_is words.Endif h = absurd (cc)
else_is words.Endm h = absurd (cc)
else_is words.End h = absurd (cc)
else_is words.Other h = absurd (cc)

endif_is : (w : Word) → is_endif w ≡ true → (opens_if w ≡ false) × (is_else w ≡ false)
endif_is words.Endif h = (refl, refl)
endif_is words.Macro h = absurd (cc)
endif_is words.Rept h = absurd (cc)
endif_is words.Irp h = absurd (cc)
endif_is words.Local h = absurd (cc)
endif_is words.Exitm h = absurd (cc)
endif_is words.If h = absurd (cc)
endif_is words.Else h = absurd (cc)
endif_is words.Endm h = absurd (cc)
endif_is words.End h = absurd (cc)
endif_is words.Other h = absurd (cc)

first_if : (e : Extent) (d : ℕ) (p : Piece) → IsOfIf e → Is opens_if p → Passes e d (d + 1) p
first_if Body d p of_if h = absurd of_if
first_if Part d p of_if h = let k : (is_else (word_at p.tokens) ≡ false) × (is_endif (word_at p.tokens) ≡ false) = if_is (word_at p.tokens) h in record { on = rw (k.0, k.1) refl; depth = rw h refl }
first_if Condition d p of_if h = let k : (is_else (word_at p.tokens) ≡ false) × (is_endif (word_at p.tokens) ≡ false) = if_is (word_at p.tokens) h in record { on = rw k.1 refl; depth = rw h refl }

mid_if : (e : Extent) (d : ℕ) (p : Piece) → IsOfIf e → Is is_else p → Passes e (d + 1) (d + 1) p
mid_if Body d p of_if h = absurd of_if
mid_if Part d p of_if h = let k : (opens_if (word_at p.tokens) ≡ false) × (is_endif (word_at p.tokens) ≡ false) = else_is (word_at p.tokens) h in record { on = rw (deeper d) (no_stop _); depth = rw (k.0, k.1) refl }
mid_if Condition d p of_if h = let k : (opens_if (word_at p.tokens) ≡ false) × (is_endif (word_at p.tokens) ≡ false) = else_is (word_at p.tokens) h in record { on = rw (deeper d) (no_stop _); depth = rw (k.0, k.1) refl }

last_if : (e : Extent) (d : ℕ) (p : Piece) → IsOfIf e → Is is_endif p → Passes e (d + 1) d p
last_if Body d p of_if h = absurd of_if
last_if Part d p of_if h = let k : (opens_if (word_at p.tokens) ≡ false) × (is_else (word_at p.tokens) ≡ false) = endif_is (word_at p.tokens) h in record { on = rw (deeper d) (no_stop _); depth = rw (k.0, h) (omega arith) }
last_if Condition d p of_if h = let k : (opens_if (word_at p.tokens) ≡ false) × (is_else (word_at p.tokens) ≡ false) = endif_is (word_at p.tokens) h in record { on = rw (deeper d) (no_stop _); depth = rw (k.0, h) (omega arith) }

pub part_passes : (e : Extent) (d : ℕ) (ps part : List Piece) → IsOfIf e → IsWholePart part → cut_at e d (part ++ ps) ≡ put_before part (cut_at e d ps)
part_passes e d ps _ of_if EmptyPart = refl
part_passes e d ps _ of_if (LineAndPart p qs beside h) = passes_on e d d p (qs ++ ps) (beside_if e d p of_if beside) ∙ ap (after_piece p) (part_passes e d ps qs of_if h)
part_passes e d ps _ of_if (IfAndPart first last inner qs opened closed h k) =
    ap (λ rest. cut_at e d (first ∷ rest)) (append_assoc inner (last ∷ qs) ps) ∙ passes_on e d (d + 1) first (inner ++ (last ∷ (qs ++ ps))) (first_if e d first of_if opened)
    ∙ ap (after_piece first) (part_passes e (d + 1) (last ∷ (qs ++ ps)) inner of_if h ∙ ap (put_before inner) (passes_on e (d + 1) d last (qs ++ ps) (last_if e d last of_if closed) ∙ ap (after_piece last) (part_passes e d ps qs of_if k))
    ∙ sym (put_append inner (last ∷ qs) (cut_at e d ps)))
part_passes e d ps _ of_if (IfElseAndPart first mid last inner other qs opened between closed h l k) =
    ap (λ rest. cut_at e d (first ∷ rest)) (append_assoc inner (mid ∷ (other ++ last ∷ qs)) ps ∙ ap (λ rest. inner ++ (mid ∷ rest)) (append_assoc other (last ∷ qs) ps))
    ∙ passes_on e d (d + 1) first (inner ++ (mid ∷ (other ++ (last ∷ (qs ++ ps))))) (first_if e d first of_if opened)
    ∙ ap (after_piece first) (part_passes e (d + 1) (mid ∷ (other ++ (last ∷ (qs ++ ps)))) inner of_if h ∙ ap (put_before inner)
    (passes_on e (d + 1) (d + 1) mid (other ++ (last ∷ (qs ++ ps))) (mid_if e d mid of_if between) ∙ ap (after_piece mid)
    (part_passes e (d + 1) (last ∷ (qs ++ ps)) other of_if l ∙ ap (put_before other) (passes_on e (d + 1) d last (qs ++ ps) (last_if e d last of_if closed) ∙ ap (after_piece last) (part_passes e d ps qs of_if k))
    ∙ sym (put_append other (last ∷ qs) (cut_at e d ps))))
    ∙ sym (put_append inner (mid ∷ (other ++ last ∷ qs)) (cut_at e d ps)))

part_is_cut : (e : Extent) (part : List Piece) (last : Piece) (rest : List Piece) → IsOfIf e → IsWholePart part → ends e (word_at last.tokens) ≡ true → cut_at e 0 (part ++ last ∷ rest) ≡ Some (record { prefix = part; ender = last; rest = rest })
part_is_cut e part last rest of_if h closed = part_passes e 0 (last ∷ rest) part of_if h ∙ ap (put_before part) (stops e last rest closed) ∙ put_some part last rest

pub kept_whole : (holds : Bool) (part : List Piece) (last : Piece) (rest : List Piece) → IsWholePart part → Is is_endif last → kept holds (part ++ last ∷ rest) ≡ Some (cond holds part [], rest)
unfolding kept
kept_whole holds part last rest h closed =
    let cut : cut_at Part 0 (part ++ last ∷ rest) ≡ Some (record { prefix = part; ender = last; rest = rest }) = part_is_cut Part part last rest tt h (rw closed refl) in
    ap (kept_of holds) cut ∙ rw closed refl

pub kept_else : (holds : Bool) (part : List Piece) (mid : Piece) (other : List Piece) (last : Piece) (rest : List Piece) → IsWholePart part → Is is_else mid → IsWholePart other → Is is_endif last →
    kept holds (part ++ mid ∷ (other ++ last ∷ rest)) ≡ Some (cond holds part other, rest)
unfolding kept
kept_else true part mid other last rest h between l closed =
    let no_end : (opens_if (word_at mid.tokens) ≡ false) × (is_endif (word_at mid.tokens) ≡ false) = else_is (word_at mid.tokens) between in
    let first : cut_at Part 0 (part ++ mid ∷ (other ++ last ∷ rest)) ≡ Some (record { prefix = part; ender = mid; rest = other ++ last ∷ rest }) = part_is_cut Part part mid (other ++ last ∷ rest) tt h (rw (between, no_end.1) refl) in
    let second : cut_at Part 0 (other ++ last ∷ rest) ≡ Some (record { prefix = other; ender = last; rest = rest }) = part_is_cut Part other last rest tt l (rw closed refl) in
    ap (kept_of true) first ∙ rw no_end.1 (ap (second_part part) second ∙ rw closed refl)
kept_else false part mid other last rest h between l closed =
    let no_end : (opens_if (word_at mid.tokens) ≡ false) × (is_endif (word_at mid.tokens) ≡ false) = else_is (word_at mid.tokens) between in
    let first : cut_at Part 0 (part ++ mid ∷ (other ++ last ∷ rest)) ≡ Some (record { prefix = part; ender = mid; rest = other ++ last ∷ rest }) = part_is_cut Part part mid (other ++ last ∷ rest) tt h (rw (between, no_end.1) refl) in
    let second : cut_at Condition 0 (other ++ last ∷ rest) ≡ Some (record { prefix = other; ender = last; rest = rest }) = part_is_cut Condition other last rest tt l closed in
    ap (kept_of false) first ∙ rw no_end.1 (ap else_part second)

-- Records put one after the other.
use Rattle.std.proofs.Common.{◌≡◌, ℕ, Bool, true, false, List, [], ◌∷◌, ◌++◌, append-nil, refl, sym, ◌∙◌, ap, subst}
use Rattle.std.proofs.lemmas.Grind.{flat_map-append}
use Rattle.kc_trace.specs.declared.record.Record.{Record}
use Rattle.kc_trace.specs.declared.trace.Counts.{Counts}
use Rattle.kc_trace.specs.Text.{line_of, text_of}
use Rattle.kc_trace.specs.Counting.{counted, counted_unless, counted_all}
use Rattle.kc_trace.specs.Out.{Out, Puts, IsPut, Prints}
use Rattle.kc_trace.proofs.Outs.{Puts-nothing, Puts-append, Puts-longer}

-- no line
pub text_of-nothing : text_of [] ≡ []
unfolding text_of
text_of-nothing = refl

-- the lines of records in two parts
pub text_of-append : (xs ys : List Record) → text_of (xs ++ ys) ≡ text_of xs ++ text_of ys
unfolding text_of
text_of-append xs ys = flat_map-append line_of xs ys

-- the line of one record
pub text_of-one : (item : Record) → text_of (item ∷ []) ≡ line_of item
unfolding text_of
text_of-one item = append-nil (line_of item)

counted_all-nothing : (c : Counts) → counted_all [] c ≡ c
unfolding counted_all
counted_all-nothing c = refl

counted_all-one : (item : Record) (c : Counts) → counted_all (item ∷ []) c ≡ counted item c
unfolding counted_all
counted_all-one item c = refl

-- the counts of records in two parts
pub counted_all-append : (xs ys : List Record) (c : Counts) → counted_all (xs ++ ys) c ≡ counted_all ys (counted_all xs c)
unfolding counted_all
counted_all-append [] ys c = refl
counted_all-append (x ∷ xs) ys c = counted_all-append xs ys (counted x c)

-- a trace that has not failed now had not failed before
unbroken : (a : Out) (text : List ℕ) (b : Out) → Puts a text b → b.failed ≡ false → a.failed ≡ false
unbroken a text b h e = by_flag a.failed refl
  where
    by_flag : (f : Bool) → a.failed ≡ f → a.failed ≡ false
    by_flag false g = g
    by_flag true g = absurd (let i = h.stays g in cc)

-- no record
pub Prints-nothing : (a : Out) → Prints a [] a
Prints-nothing a = record { text = subst (λ text. Puts a text a) (sym text_of-nothing) (Puts-nothing a); counts = λ e. sym (counted_all-nothing a.counts) }

-- no record, as the records are
pub Prints-none : (records : List Record) (a : Out) → [] ≡ records → Prints a records a
Prints-none records a none = subst (λ xs. Prints a xs a) none (Prints-nothing a)

-- one record
pub Prints-one : (a : Out) (item : Record) (b : Out) → IsPut a item b → Prints a (item ∷ []) b
Prints-one a item b h = record {
  text = subst (λ text. Puts a text b) (sym (text_of-one item)) h.line;
  counts = λ e. h.counts ∙ ap (λ f. counted_unless f item a.counts) (unbroken a (line_of item) b h.line e) ∙ sym (counted_all-one item a.counts);
}

-- some records, and then others
pub Prints-append : (a : Out) (xs : List Record) (b : Out) (ys : List Record) (c : Out) → Prints a xs b → Prints b ys c → Prints a (xs ++ ys) c
Prints-append a xs b ys c h k = record {
  text = subst (λ text. Puts a text c) (sym (text_of-append xs ys)) (Puts-append a (text_of xs) b (text_of ys) c h.text k.text);
  counts = λ e. k.counts e ∙ ap (counted_all ys) (h.counts (unbroken b (text_of ys) c k.text e)) ∙ sym (counted_all-append xs ys a.counts);
}

-- one record, and then others
pub Prints-cons : (a : Out) (item : Record) (b : Out) (items : List Record) (c : Out) → IsPut a item b → Prints b items c → Prints a (item ∷ items) c
Prints-cons a item b items c h k = Prints-append a (item ∷ []) b items c (Prints-one a item b h) k

-- a trace that has failed has put a prefix of any longer list
pub Prints-longer : (a : Out) (xs ys : List Record) (b : Out) → b.failed ≡ true → Prints a xs b → Prints a (xs ++ ys) b
Prints-longer a xs ys b over h = record {
  text = subst (λ text. Puts a text b) (sym (text_of-append xs ys)) (Puts-longer a (text_of xs) (text_of ys) b over h.text);
  counts = λ e. absurd (let t : true ≡ false = sym over ∙ e in cc);
}

-- lines that were put whole, or at which the sink has failed
pub printed : (o : Out) (xs : List Record) (p : Out) → Puts o (text_of xs) p → p.counts ≡ counted_all xs o.counts → Prints o xs p
printed o xs p text counts = record { text = text; counts = λ e. counts }

pub broken-off : (o : Out) (xs : List Record) (p : Out) → Puts o (text_of xs) p → p.failed ≡ true → Prints o xs p
broken-off o xs p text failed = record { text = text; counts = λ e. absurd (let t : true ≡ false = sym failed ∙ e in cc) }

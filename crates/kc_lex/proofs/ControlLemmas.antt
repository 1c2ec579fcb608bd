-- A character of a control line, and the rest.
use Rattle.std.proofs.Common.{◌≡◌, ℕ, ◌+◌, ◌<◌, ◌≤◌, Bool, true, false, List, length, drop, get_or, refl, ap, add-one}
use Rattle.std.proofs.Math.Seq.{drop-cons}
use Rattle.std.proofs.Math.ListN.{drop_of_length-le}
use Rattle.kc_lex.specs.Chars.{is_text_char}
use Rattle.kc_lex.specs.Lines.{comment_begins, quoted_after, is_text_to_comment}

pub comment_found : (q : Bool) (s : List ℕ) (i : ℕ) → i < length s → comment_begins q (get_or s i 0) ≡ true → is_text_to_comment q (drop i s) ≡ true
unfolding is_text_to_comment
comment_found q s i h is = rw (drop-cons s i 0 h, is) refl

pub no_text : (q : Bool) (s : List ℕ) (i : ℕ) → i < length s → comment_begins q (get_or s i 0) ≡ false → is_text_char (get_or s i 0) ≡ false → is_text_to_comment q (drop i s) ≡ false
unfolding is_text_to_comment
no_text q s i h is text = rw (drop-cons s i 0 h, is, text) refl

pub text_read : (q : Bool) (s : List ℕ) (i : ℕ) → i < length s → comment_begins q (get_or s i 0) ≡ false → is_text_char (get_or s i 0) ≡ true → is_text_to_comment (quoted_after q (get_or s i 0)) (drop (i + 1) s) ≡ is_text_to_comment q (drop i s)
unfolding is_text_to_comment
text_read q s i h is text = rw (drop-cons s i 0 h, is, text, add-one) refl

pub all_read : (q : Bool) (s : List ℕ) (i : ℕ) → length s ≤ i → is_text_to_comment q (drop i s) ≡ true
unfolding is_text_to_comment
all_read q s i h = ap (is_text_to_comment q) (drop_of_length-le s h)

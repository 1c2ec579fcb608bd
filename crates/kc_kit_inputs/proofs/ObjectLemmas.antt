-- Objects one after the other.
use Rattle.std.proofs.Common.{◌≡◌, ℕ, zero, suc, ◌+◌, ◌<◌, ◌≤◌, List, [], ◌∷◌, ◌++◌, length, drop, get_or, string_bytes, String, Global, Some, Result, Ok, Err, refl, sym, ◌∙◌, ap, subst, append_assoc, arith}
use Rattle.std.specs.Prelude.{slice_get}
use Rattle.std.specs.List.{All, slice_index_or}
use Rattle.std.specs.Global.{Vec}
use Rattle.std.proofs.lemmas.List.{append-nil}
use Rattle.kc_obj_module.specs.Object.{Object}
use Rattle.kc_kit_files.specs.Response.{Response, joined}
use Rattle.kc_kit_inputs.specs.Objects.{modules_of, object_of}
use Rattle.kc_kit_messages.proofs.Words.{names_in, texts_in, name-get, text-get, length-names}

-- the one element of a list
pub all-one : (P : Object → Type 0) (m : Object) → P m → All P (m ∷ [])
all-one P m h = λ k d within. subst (λ n. P (slice_index_or (m ∷ []) n d)) (let e : 0 ≡ k = omega (arith, within) in e) h

abbrev pub prepend : List Object → Result (List Object) Response → Result (List Object) Response
prepend ms (Ok more) = Ok (ms ++ more)
prepend ms (Err r) = Err r

pub prepend-none : (x : Result (List Object) Response) → prepend [] x ≡ x
prepend-none (Ok more) = refl
prepend-none (Err r) = refl

modules-next : (names texts : List (List ℕ)) (i : ℕ) (n t : List ℕ) → slice_get names i ≡ Some n → slice_get texts i ≡ Some t →
    modules_of object_of (drop i names) (drop i texts) ≡ joined (object_of n t) (modules_of object_of (drop (suc i) names) (drop (suc i) texts))
modules-next [] texts i n t e f = absurd (cc)
modules-next (a ∷ names) [] i n t e f = absurd (cc)
modules-next (a ∷ names) (b ∷ texts) zero n t e f =
    let same : a ≡ n = cc in
    let text : b ≡ t = cc in
    rw (same, text) refl
modules-next (a ∷ names) (b ∷ texts) (suc i) n t e f = modules-next names texts i n t e f

push-joined : (ms : List Object) (m : Object) (x : Result Object Response) (others : Result (List Object) Response) → x ≡ Ok m → prepend ms (joined x others) ≡ prepend (ms ++ m ∷ []) others
push-joined ms m x (Ok more) e = ap (λ y. prepend ms (joined y (Ok more))) e ∙ ap Ok (sym (append_assoc ms (m ∷ []) more))
push-joined ms m x (Err r) e = ap (λ y. prepend ms (joined y (Err r))) e

stop-joined : (ms : List Object) (r : Response) (x : Result Object Response) (others : Result (List Object) Response) → x ≡ Err r → prepend ms (joined x others) ≡ Err r
stop-joined ms r x others e = ap (λ y. prepend ms (joined y others)) e

pub object-next : (ws : List (String Global)) (ts : List (Vec ℕ)) (i : ℕ) (w : String Global) (t : Vec ℕ) (ms : List Object) (m : Object) → i < length ws → length ts ≡ length ws → w ≡ get_or ws i w → t ≡ get_or ts i t →
    object_of (string_bytes w) t.items ≡ Ok m →
    prepend ms (modules_of object_of (drop i (names_in ws)) (drop i (texts_in ts))) ≡ prepend (ms ++ m ∷ []) (modules_of object_of (drop (i + 1) (names_in ws)) (drop (i + 1) (texts_in ts)))
object-next ws ts i w t ms m h k e f ok =
    let more : i + 1 ≡ suc i = omega arith in
    rw more (ap (prepend ms) (modules-next (names_in ws) (texts_in ts) i (string_bytes w) t.items (name-get ws i w h e) (text-get ts i t (omega (arith, k)) f))
    ∙ push-joined ms m (object_of (string_bytes w) t.items) (modules_of object_of (drop (suc i) (names_in ws)) (drop (suc i) (texts_in ts))) ok)

pub object-stop : (ws : List (String Global)) (ts : List (Vec ℕ)) (i : ℕ) (w : String Global) (t : Vec ℕ) (ms : List Object) (r : Response) → i < length ws → length ts ≡ length ws → w ≡ get_or ws i w → t ≡ get_or ts i t →
    object_of (string_bytes w) t.items ≡ Err r → prepend ms (modules_of object_of (drop i (names_in ws)) (drop i (texts_in ts))) ≡ Err r
object-stop ws ts i w t ms r h k e f bad =
    ap (prepend ms) (modules-next (names_in ws) (texts_in ts) i (string_bytes w) t.items (name-get ws i w h e) (text-get ts i t (omega (arith, k)) f))
    ∙ stop-joined ms r (object_of (string_bytes w) t.items) (modules_of object_of (drop (suc i) (names_in ws)) (drop (suc i) (texts_in ts))) bad

drop-past : (names texts : List (List ℕ)) (i : ℕ) → length names ≤ i → modules_of object_of (drop i names) texts ≡ Ok []
drop-past [] texts zero h = refl
drop-past [] texts (suc i) h = refl
drop-past (a ∷ names) texts zero h = absurd (omega (arith, h))
drop-past (a ∷ names) texts (suc i) h = drop-past names texts i (omega (arith, h))

pub object-end : (ws : List (String Global)) (ts : List (Vec ℕ)) (i : ℕ) (ms : List Object) → length ws ≤ i → prepend ms (modules_of object_of (drop i (names_in ws)) (drop i (texts_in ts))) ≡ Ok ms
object-end ws ts i ms h = ap (prepend ms) (drop-past (names_in ws) (drop i (texts_in ts)) i (omega (arith, length-names ws, h))) ∙ ap Ok (append-nil ms)

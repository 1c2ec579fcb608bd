-- Files that are read one after the other.
use Rattle.std.proofs.Common.{◌≡◌, ◌⊎◌, inl, inr, ℕ, suc, ◌+◌, ◌<◌, ◌≤◌, true, false, List, [], ◌∷◌, ◌++◌, length, map, take, drop, get_or, string_bytes, String, Global, append_assoc, ◌-◌, replicate, Option, Some, None, Result, Ok, Err, refl, sym, ◌∙◌, ap, subst, arith}
use Rattle.std.specs.Prelude.{nat_lt, IsSomeAnd}
use Rattle.std.specs.Result.{IsOk}
use Rattle.std.specs.Global.{Vec}
use Rattle.std.proofs.lemmas.Bool.Decides.{nat_tests}
use Rattle.std.proofs.lemmas.List.{length-replicate, length-append, length-map, take_all}
use Rattle.kc_base.specs.Held.{Holding, Reported}
use Rattle.kc_base.specs.declared.files.FileFault.{FileFault}
use Rattle.kc_base.specs.declared.files.FileFault.TheVariants as fault
use Rattle.kc_kit_files.specs.declared.refusal.Refusal.{Refusal}
use Rattle.kc_kit_files.specs.declared.refusal.Refusal.TheVariants as refusals
use Rattle.kc_kit_files.specs.Response.{Response, reports, before, joined, status_for, IsRefused}
use Rattle.kc_kit_files.specs.Outside.{OnlyRead}
use Rattle.kc_kit_files.specs.Reads.{read_of, reads_of, missing_response, long_response, read_response, FailedRead, Holds, MissedRead, MissedOne, AllShort, AreHeld, IsUnread}

-- what may be answered may be answered
pub refused-widen : (may wide : Response → Type 0) (refusal : Refusal) → ((r : Response) → may r → wide r) → IsRefused may refusal → IsRefused wide refusal
refused-widen may wide (refusals.Says cause line diagnostic) f h = f (reports (status_for cause) line.items diagnostic.items) h
refused-widen may wide refusals.NoMemory f h = tt

-- files that are read again are read alone
pub stays-onward : {T : Type 0} (held : T → Option Holding) (reads writes : T → ℕ) (a b c : T) → OnlyRead held reads writes a b → OnlyRead held reads writes b c → OnlyRead held reads writes a c
stays-onward held reads writes a b c h k = record { same = k.same ∙ h.same; later = omega (arith, h.later, k.later); no_write = k.no_write ∙ h.no_write }

-- ---- one file

pub read-short : (name bytes : List ℕ) → length bytes ≤ 1048576 → read_of name (Some bytes) ≡ Ok bytes
read-short name bytes within =
    let short : nat_lt 1048576 (length bytes) ≡ false = grind (arith, nat_tests) in
    rw short refl

read-long : (name bytes : List ℕ) → 1048576 < length bytes → read_of name (Some bytes) ≡ Err (long_response name)
read-long name bytes past =
    let long : nat_lt 1048576 (length bytes) ≡ true = grind (arith, nat_tests) in
    rw long refl

abbrev IsTooLong : Option (List ℕ) → Type 0
IsTooLong held = IsSomeAnd held (λ bytes. 1048576 < length bytes)

read-too_long : (name : List ℕ) (content : Option (List ℕ)) → IsTooLong content → read_of name content ≡ Err (long_response name)
read-too_long name (Some bytes) h = read-long name bytes h
read-too_long name None h = absurd h

some_long : 1048576 < length (replicate {A = ℕ} 1048577 0)
some_long = subst (λ n. 1048576 < n) (sym (length-replicate {A = ℕ} 1048577 0)) (omega arith)

abbrev pub unread : FileFault → Result (Vec ℕ) FileFault
unread why = Err why

-- why a file could not be read
pub missed-unread : (reported : Option Holding) (name : List ℕ) (rose : Type 0) (why : FileFault) →
    Reported reported (λ held. unread why ≡ unread fault.Missing → held name ≡ None) →
    Reported reported (λ held. unread why ≡ unread fault.TooLong → IsSomeAnd (held name) (λ bytes. 1048576 < length bytes)) →
    (unread why ≡ unread fault.Failed → rose) →
    (r : Response) → IsUnread name why r → MissedOne reported name rose r
missed-unread (Some held) name rose fault.Missing none long failed r h =
    let gone : read_of name (held name) ≡ Err (missing_response name) = ap (read_of name) (none refl) in
    (held name, refl, inl (gone ∙ ap Err (sym h)))
missed-unread None name rose fault.Missing none long failed r h = (None, tt, inl (ap Err (sym h)))
missed-unread (Some held) name rose fault.TooLong none long failed r h = (held name, refl, inl (read-too_long name (held name) (long refl) ∙ ap Err (sym h)))
missed-unread None name rose fault.TooLong none long failed r h = (Some (replicate {A = ℕ} 1048577 0), tt, inl (read-long name (replicate {A = ℕ} 1048577 0) some_long ∙ ap Err (sym h)))
missed-unread (Some held) name rose fault.Failed none long failed r h = (held name, refl, inr (failed refl, h))
missed-unread None name rose fault.Failed none long failed r h = (None, tt, inr (failed refl, h))
missed-unread reported name rose fault.NoMemory none long failed r h = absurd h

-- ---- several files

-- files that are held are read
pub reads-held : (names texts : List (List ℕ)) → length texts ≡ length names → AllShort texts → reads_of names (map Some texts) ≡ Ok texts
reads-held [] [] e short = refl
reads-held [] (t ∷ ts) e short = absurd (omega (arith, e))
reads-held (n ∷ ns) [] e short = absurd (omega (arith, e))
reads-held (n ∷ ns) (t ∷ ts) e short =
    rw (read-short n t short.0) (ap (before t) (reads-held ns ts (omega (arith, e)) short.1))

pub Holds-held : (reported : Option Holding) (names texts : List (List ℕ)) → AreHeld reported names texts → Holds reported names (map Some texts)
Holds-held None names texts h = length-map texts Some ∙ h.count
Holds-held (Some held) names texts h = sym h.held

map-append : {A B : Type 0} (f : A → B) (xs ys : List A) → map f (xs ++ ys) ≡ map f xs ++ map f ys
map-append f [] ys = refl
map-append f (x ∷ xs) ys = ap (λ l. f x ∷ l) (map-append f xs ys)

AllShort-push : (texts : List (List ℕ)) (text : List ℕ) → AllShort texts → length text ≤ 1048576 → AllShort (texts ++ text ∷ [])
AllShort-push [] text h k = (k, tt)
AllShort-push (t ∷ ts) text h k = (h.0, AllShort-push ts text h.1 k)

pub held-none : (reported : Option Holding) → AreHeld reported [] []
held-none None = record { count = refl; short = tt; held = tt }
held-none (Some held) = record { count = refl; short = tt; held = refl }

-- one file more
pub held-push : (reported : Option Holding) (names texts : List (List ℕ)) (name bytes : List ℕ) → AreHeld reported names texts →
    length bytes ≤ 1048576 → Reported reported (λ held. held name ≡ Some bytes) → AreHeld reported (names ++ name ∷ []) (texts ++ bytes ∷ [])
held-push reported names texts name bytes h within one = record {
  count = length-append texts (bytes ∷ []) ∙ ap (λ n. n + 1) h.count ∙ sym (length-append names (name ∷ []));
  short = AllShort-push texts bytes h.short within;
  held = by reported h.held one;
}
  where
    by : (reported : Option Holding) → Reported reported (λ held. map held names ≡ map Some texts) → Reported reported (λ held. held name ≡ Some bytes) → Reported reported (λ held. map held (names ++ name ∷ []) ≡ map Some (texts ++ bytes ∷ []))
    by None h one = tt
    by (Some held) h one = map-append held names (name ∷ []) ∙ ap (λ l. l ++ held name ∷ []) h ∙ ap (λ c. map Some texts ++ c ∷ []) one ∙ sym (map-append Some texts (bytes ∷ []))

-- a name that cannot be read, behind some that are held
reads-stop : (names texts : List (List ℕ)) (name : List ℕ) (rest : List (List ℕ)) (content : Option (List ℕ)) (contents : List (Option (List ℕ))) (r : Response) →
    length texts ≡ length names → AllShort texts → read_of name content ≡ Err r → reads_of (names ++ name ∷ rest) (map Some texts ++ content ∷ contents) ≡ Err r
reads-stop [] [] name rest content contents r e short h = rw h refl
reads-stop [] (t ∷ ts) name rest content contents r e short h = absurd (omega (arith, e))
reads-stop (n ∷ ns) [] name rest content contents r e short h = absurd (omega (arith, e))
reads-stop (n ∷ ns) (t ∷ ts) name rest content contents r e short h =
    rw (read-short n t short.0) (ap (before t) (reads-stop ns ts name rest content contents r (omega (arith, e)) short.1 h))

failed-stop : (names texts : List (List ℕ)) (name : List ℕ) (rest : List (List ℕ)) (content : Option (List ℕ)) (contents : List (Option (List ℕ))) (rose : Type 0) (r : Response) →
    length texts ≡ length names → AllShort texts → rose → r ≡ read_response name → FailedRead (names ++ name ∷ rest) (map Some texts ++ content ∷ contents) rose r
failed-stop [] [] name rest content contents rose r e short g h = inl (g, h)
failed-stop [] (t ∷ ts) name rest content contents rose r e short g h = absurd (omega (arith, e))
failed-stop (n ∷ ns) [] name rest content contents rose r e short g h = absurd (omega (arith, e))
failed-stop (n ∷ ns) (t ∷ ts) name rest content contents rose r e short g h =
    inr (subst (λ o. IsOk o) (sym (read-short n t short.0)) refl, failed-stop ns ts name rest content contents rose r (omega (arith, e)) short.1 g h)

-- what the names hold of which the first ones are read
abbrev pub others : Option Holding → List (List ℕ) → List (Option (List ℕ))
others None names = map (λ n. None) names
others (Some held) names = map held names

-- the refusal of a name behind some that are held
pub missed-behind : (reported : Option Holding) (names texts : List (List ℕ)) (name : List ℕ) (rest : List (List ℕ)) (rose : Type 0) (r : Response) →
    AreHeld reported names texts → MissedOne reported name rose r → MissedRead reported (names ++ name ∷ rest) rose r
missed-behind reported names texts name rest rose r h (content, here, why) = (map Some texts ++ content ∷ others reported rest, by reported h.count h.held here, which why)
  where
    by : (reported : Option Holding) → length texts ≡ length names → Reported reported (λ held. map held names ≡ map Some texts) → Reported reported (λ held. held name ≡ content) → Holds reported (names ++ name ∷ rest) (map Some texts ++ content ∷ others reported rest)
    by None e h one = length-append (map Some texts) (content ∷ map (λ n. None) rest) ∙ ap (λ n. n + length (content ∷ map (λ (n : List ℕ). None) rest)) (length-map texts Some ∙ e) ∙ ap (λ n. length names + suc n) (length-map rest (λ n. None)) ∙ sym (length-append names (name ∷ rest))
    by (Some held) e h one = sym (map-append held names (name ∷ rest) ∙ ap (λ l. l ++ held name ∷ map held rest) h ∙ ap (λ c. map Some texts ++ c ∷ map held rest) one)

    which : (read_of name content ≡ Err r) ⊎ (rose × (r ≡ read_response name)) →
        (reads_of (names ++ name ∷ rest) (map Some texts ++ content ∷ others reported rest) ≡ Err r) ⊎ FailedRead (names ++ name ∷ rest) (map Some texts ++ content ∷ others reported rest) rose r
    which (inl e) = inl (reads-stop names texts name rest content (others reported rest) r h.count h.short e)
    which (inr g) = inr (failed-stop names texts name rest content (others reported rest) rose r h.count h.short g.0 g.1)

-- one name alone
pub held-one : (reported : Option Holding) (name bytes : List ℕ) → length bytes ≤ 1048576 → Reported reported (λ held. held name ≡ Some bytes) → AreHeld reported (name ∷ []) (bytes ∷ [])
held-one reported name bytes within one = held-push reported [] [] name bytes (held-none reported) within one

pub missed-one : (reported : Option Holding) (name : List ℕ) (rose : Type 0) (r : Response) → MissedOne reported name rose r → MissedRead reported (name ∷ []) rose r
missed-one reported name rose r h = missed-behind reported [] [] name [] rose r (held-none reported) h

-- ---- one name more of a list

-- the first of some strings, and the others
pub first-others : (ws : List (String Global)) (v : String Global) → 1 ≤ length ws → v ≡ get_or ws 0 v → map string_bytes ws ≡ string_bytes v ∷ map string_bytes (take (length ws - 1) (drop 1 ws))
first-others [] v some first = absurd (omega (arith, some))
first-others (a ∷ ws) v some first =
    let whole : take (length (a ∷ ws) - 1) ws ≡ ws = take_all (length (a ∷ ws) - 1) ws (omega arith) in
    rw (first, whole) refl

missed-rose : (reported : Option Holding) (name : List ℕ) (rose later : Type 0) (r : Response) → (rose → later) → MissedOne reported name rose r → MissedOne reported name later r
missed-rose reported name rose later r f (content, here, inl e) = (content, here, inl e)
missed-rose reported name rose later r f (content, here, inr k) = (content, here, inr (f k.0, k.1))

-- the next name cannot be read
pub missed-step : (reported mid : Option Holding) (names done texts : List (List ℕ)) (name : List ℕ) (rest : List (List ℕ)) (rose later : Type 0) (refusal : Refusal) →
    mid ≡ reported → names ≡ done ++ name ∷ rest → AreHeld reported done texts → (rose → later) → IsRefused (MissedOne mid name rose) refusal → IsRefused (MissedRead reported names later) refusal
missed-step reported mid names done texts name rest rose later refusal same split h f =
    refused-widen (MissedOne mid name rose) (MissedRead reported names later) refusal
    (λ r m. subst (λ l. MissedRead reported l later r) (sym split)
    (missed-behind reported done texts name rest later r h (missed-rose reported name rose later r f (subst (λ t. MissedOne t name rose r) same m))))

-- the next name is read
pub held-step : (reported mid : Option Holding) (done : List (List ℕ)) (texts news : List (Vec ℕ)) (name : List ℕ) (bytes : Vec ℕ) →
    mid ≡ reported → AreHeld reported done (map (λ t. t.items) texts) → length bytes.items ≤ 1048576 → Reported mid (λ held. held name ≡ Some bytes.items) → news ≡ texts ++ bytes ∷ [] →
    AreHeld reported (done ++ name ∷ []) (map (λ t. t.items) news)
held-step reported mid done texts news name bytes same h short one pushed =
    subst (λ l. AreHeld reported (done ++ name ∷ []) l) (sym (ap (map (λ t. t.items)) pushed ∙ map-append (λ (t : Vec ℕ). t.items) texts (bytes ∷ [])))
    (held-push reported done (map (λ t. t.items) texts) name bytes.items h short (subst (λ t. Reported t (λ held. held name ≡ Some bytes.items)) same one))

-- the same of the first of some strings
split-first : (names done : List (List ℕ)) (left : List (String Global)) (v : String Global) (name : List ℕ) → names ≡ done ++ map string_bytes left → 1 ≤ length left → v ≡ get_or left 0 v → name ≡ string_bytes v →
    names ≡ done ++ name ∷ map string_bytes (take (length left - 1) (drop 1 left))
split-first names done left v name split some first e =
    split ∙ ap (λ l. done ++ l) (first-others left v some first ∙ ap (λ n. n ∷ map string_bytes (take (length left - 1) (drop 1 left))) (sym e))

pub missed-next : (reported mid : Option Holding) (names done texts : List (List ℕ)) (left : List (String Global)) (v : String Global) (name : List ℕ) (rose later : Type 0) (refusal : Refusal) →
    mid ≡ reported → names ≡ done ++ map string_bytes left → 1 ≤ length left → v ≡ get_or left 0 v → name ≡ string_bytes v → AreHeld reported done texts → (rose → later) →
    IsRefused (MissedOne mid name rose) refusal → IsRefused (MissedRead reported names later) refusal
missed-next reported mid names done texts left v name rose later refusal same split some first e h f =
    missed-step reported mid names done texts name (map string_bytes (take (length left - 1) (drop 1 left))) rose later refusal same (split-first names done left v name split some first e) h f

pub held-next : (reported mid : Option Holding) (names done : List (List ℕ)) (texts news : List (Vec ℕ)) (left : List (String Global)) (v : String Global) (name : List ℕ) (bytes : Vec ℕ) →
    mid ≡ reported → names ≡ done ++ map string_bytes left → 1 ≤ length left → v ≡ get_or left 0 v → name ≡ string_bytes v → AreHeld reported done (map (λ t. t.items) texts) →
    length bytes.items ≤ 1048576 → Reported mid (λ held. held name ≡ Some bytes.items) → news ≡ texts ++ bytes ∷ [] →
    (names ≡ (done ++ name ∷ []) ++ map string_bytes (take (length left - 1) (drop 1 left))) × AreHeld reported (done ++ name ∷ []) (map (λ t. t.items) news)
held-next reported mid names done texts news left v name bytes same split some first e h short one pushed = (
  split-first names done left v name split some first e ∙ sym (append_assoc done (name ∷ []) (map string_bytes (take (length left - 1) (drop 1 left)))),
  held-step reported mid done texts news name bytes same h short one pushed,
)

-- ---- some names, and then others

AllShort-both : (ts us : List (List ℕ)) → AllShort ts → AllShort us → AllShort (ts ++ us)
AllShort-both [] us h k = k
AllShort-both (t ∷ ts) us h k = (h.0, AllShort-both ts us h.1 k)

-- all of them are read
pub held-both : (reported mid : Option Holding) (ns ms ts us : List (List ℕ)) → mid ≡ reported → AreHeld reported ns ts → AreHeld mid ms us → AreHeld reported (ns ++ ms) (ts ++ us)
held-both reported mid ns ms ts us same h k = record {
  count = length-append ts us ∙ ap (λ n. n + length us) h.count ∙ ap (λ n. length ns + n) k.count ∙ sym (length-append ns ms);
  short = AllShort-both ts us h.short k.short;
  held = by reported h.held (subst (λ t. Reported t (λ held. map held ms ≡ map Some us)) same k.held);
}
  where
    by : (reported : Option Holding) → Reported reported (λ held. map held ns ≡ map Some ts) → Reported reported (λ held. map held ms ≡ map Some us) → Reported reported (λ held. map held (ns ++ ms) ≡ map Some (ts ++ us))
    by None a b = tt
    by (Some held) a b = map-append held ns ms ∙ ap (λ l. l ++ map held ms) a ∙ ap (λ l. map Some ts ++ l) b ∙ sym (map-append Some ts us)

joined-longer : (x : Result (List ℕ) Response) (o more : Result (List (List ℕ)) Response) (r : Response) → (o ≡ Err r → more ≡ Err r) → joined x o ≡ Err r → joined x more ≡ Err r
joined-longer (Err q) o more r f h = h
joined-longer (Ok a) (Err q) more r f h = ap (before a) (f (let e : Err q ≡ Err r = h in e))
joined-longer (Ok a) (Ok texts) more r f h = absurd (cc)

reads-longer : (ns ms : List (List ℕ)) (cs ds : List (Option (List ℕ))) (r : Response) → reads_of ns cs ≡ Err r → reads_of (ns ++ ms) (cs ++ ds) ≡ Err r
reads-longer [] ms cs ds r e = absurd (cc)
reads-longer (n ∷ ns) ms [] ds r e = absurd (cc)
reads-longer (n ∷ ns) ms (c ∷ cs) ds r e = joined-longer (read_of n c) (reads_of ns cs) (reads_of (ns ++ ms) (cs ++ ds)) r (reads-longer ns ms cs ds r) e

failed-longer : (ns ms : List (List ℕ)) (cs ds : List (Option (List ℕ))) (rose : Type 0) (r : Response) → FailedRead ns cs rose r → FailedRead (ns ++ ms) (cs ++ ds) rose r
failed-longer [] ms cs ds rose r h = absurd h
failed-longer (n ∷ ns) ms [] ds rose r h = absurd h
failed-longer (n ∷ ns) ms (c ∷ cs) ds rose r (inl g) = inl g
failed-longer (n ∷ ns) ms (c ∷ cs) ds rose r (inr k) = inr (k.0, failed-longer ns ms cs ds rose r k.1)

length-none : (ms : List (List ℕ)) → length (others None ms) ≡ length ms
length-none [] = refl
length-none (m ∷ ms) = ap suc (length-none ms)

-- one of the first cannot be read
pub missed-first : (reported : Option Holding) (ns ms : List (List ℕ)) (rose : Type 0) (r : Response) → MissedRead reported ns rose r → MissedRead reported (ns ++ ms) rose r
missed-first reported ns ms rose r (contents, here, why) = (contents ++ others reported ms, by reported here, which why)
  where
    by : (reported : Option Holding) → Holds reported ns contents → Holds reported (ns ++ ms) (contents ++ others reported ms)
    by None e = length-append contents (others None ms) ∙ ap (λ n. n + length (others None ms)) e ∙ ap (λ n. length ns + n) (length-none ms) ∙ sym (length-append ns ms)
    by (Some held) e = ap (λ l. l ++ map held ms) e ∙ sym (map-append held ns ms)

    which : (reads_of ns contents ≡ Err r) ⊎ FailedRead ns contents rose r → (reads_of (ns ++ ms) (contents ++ others reported ms) ≡ Err r) ⊎ FailedRead (ns ++ ms) (contents ++ others reported ms) rose r
    which (inl e) = inl (reads-longer ns ms contents (others reported ms) r e)
    which (inr g) = inr (failed-longer ns ms contents (others reported ms) rose r g)

reads-behind : (ns ts ms : List (List ℕ)) (cs : List (Option (List ℕ))) (r : Response) → length ts ≡ length ns → AllShort ts → reads_of ms cs ≡ Err r → reads_of (ns ++ ms) (map Some ts ++ cs) ≡ Err r
reads-behind [] [] ms cs r e short h = h
reads-behind [] (t ∷ ts) ms cs r e short h = absurd (omega (arith, e))
reads-behind (n ∷ ns) [] ms cs r e short h = absurd (omega (arith, e))
reads-behind (n ∷ ns) (t ∷ ts) ms cs r e short h = rw (read-short n t short.0) (ap (before t) (reads-behind ns ts ms cs r (omega (arith, e)) short.1 h))

failed-rose : (ms : List (List ℕ)) (cs : List (Option (List ℕ))) (rose later : Type 0) (r : Response) → (rose → later) → FailedRead ms cs rose r → FailedRead ms cs later r
failed-rose [] cs rose later r f h = absurd h
failed-rose (m ∷ ms) [] rose later r f h = absurd h
failed-rose (m ∷ ms) (c ∷ cs) rose later r f (inl g) = inl (f g.0, g.1)
failed-rose (m ∷ ms) (c ∷ cs) rose later r f (inr k) = inr (k.0, failed-rose ms cs rose later r f k.1)

failed-behind : (ns ts ms : List (List ℕ)) (cs : List (Option (List ℕ))) (rose : Type 0) (r : Response) → length ts ≡ length ns → AllShort ts → FailedRead ms cs rose r → FailedRead (ns ++ ms) (map Some ts ++ cs) rose r
failed-behind [] [] ms cs rose r e short h = h
failed-behind [] (t ∷ ts) ms cs rose r e short h = absurd (omega (arith, e))
failed-behind (n ∷ ns) [] ms cs rose r e short h = absurd (omega (arith, e))
failed-behind (n ∷ ns) (t ∷ ts) ms cs rose r e short h = inr (subst (λ o. IsOk o) (sym (read-short n t short.0)) refl, failed-behind ns ts ms cs rose r (omega (arith, e)) short.1 h)

-- the first are read, and one of the others cannot be
pub missed-second : (reported mid : Option Holding) (ns ms ts : List (List ℕ)) (rose later : Type 0) (r : Response) → mid ≡ reported → AreHeld reported ns ts → (rose → later) → MissedRead mid ms rose r → MissedRead reported (ns ++ ms) later r
missed-second reported mid ns ms ts rose later r same h f missed = by_contents (subst (λ t. MissedRead t ms rose r) same missed)
  where
    by : (reported : Option Holding) (contents : List (Option (List ℕ))) → length ts ≡ length ns → Reported reported (λ held. map held ns ≡ map Some ts) → Holds reported ms contents → Holds reported (ns ++ ms) (map Some ts ++ contents)
    by None contents e a b = length-append (map Some ts) contents ∙ ap (λ n. n + length contents) (length-map ts Some ∙ e) ∙ ap (λ n. length ns + n) b ∙ sym (length-append ns ms)
    by (Some held) contents e a b = ap (λ l. map Some ts ++ l) b ∙ ap (λ l. l ++ map held ms) (sym a) ∙ sym (map-append held ns ms)

    which : (contents : List (Option (List ℕ))) → (reads_of ms contents ≡ Err r) ⊎ FailedRead ms contents rose r →
        (reads_of (ns ++ ms) (map Some ts ++ contents) ≡ Err r) ⊎ FailedRead (ns ++ ms) (map Some ts ++ contents) later r
    which contents (inl e) = inl (reads-behind ns ts ms contents r h.count h.short e)
    which contents (inr g) = inr (failed-behind ns ts ms contents later r h.count h.short (failed-rose ms contents rose later r f g))

    by_contents : MissedRead reported ms rose r → MissedRead reported (ns ++ ms) later r
    by_contents (contents, here, why) = (map Some ts ++ contents, by reported contents h.count h.held here, which contents why)

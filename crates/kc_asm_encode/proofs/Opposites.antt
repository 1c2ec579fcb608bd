-- Each branch with its jump and its inverse jump.
use Rattle.std.proofs.Common.{◌≡◌, ℕ, Bool, true, false, List, [], ◌∷◌, refl, sym, subst}
use Rattle.std.specs.Prelude.{◌||◌, not, codes}
use Rattle.std.specs.Str.{bytes_eq}
use Rattle.std.proofs.lemmas.Slice.Eq.{bytes_eq-Decides}
use Rattle.kc_isa.specs.declared.table.Mnemonic.{Mnemonic}
use Rattle.kc_isa.specs.declared.table.Mnemonic.TheVariants.{Jc, Je, Jge, Jgt, Jh, Jle, Jlt, Jnc, Jne, Jnh, Jnst, Jnv, Jnvt, Jst, Jv, Jvt, Jbc, Jbs}
use Rattle.kc_lex.specs.Words.{is_one_of, is_generic_conditional}
use Rattle.kc_asm_encode.specs.Branches.{jump_of, inverse_of}
use Rattle.kc_asm_encode.specs.Opposite.{HaveNames, AreOpposite, AskOpposite}

twice : (b : Bool) → b ≡ not (not b)
twice true = refl
twice false = refl

abbrev HasOpposite : List ℕ → Type 0
HasOpposite word = (jump : Mnemonic) × ((inverse : Mnemonic) × (HaveNames word jump inverse × AreOpposite jump inverse))

abbrev HasTests : List ℕ → Type 0
HasTests word = (jump : Mnemonic) × ((inverse : Mnemonic) × (HaveNames word jump inverse × AskOpposite jump inverse))

abbrev AllOf : (List ℕ → Type 0) → List (List ℕ) → Type 0
AllOf P [] = Unit {0}
AllOf P (v ∷ vs) = P v × AllOf P vs

one_of : (P : List ℕ → Type 0) (words : List (List ℕ)) (w : List ℕ) → AllOf P words → is_one_of words w ≡ true → P w
one_of P [] w all h = absurd (cc h)
one_of P (v ∷ vs) w all h = split P v w (is_one_of vs w) (bytes_eq w v) refl all.0 (λ k. one_of P vs w all.1 k) h
  where
    split : (P : List ℕ → Type 0) (v w : List ℕ) (rest t : Bool) → bytes_eq w v ≡ t → P v → (rest ≡ true → P w) → (t || rest) ≡ true → P w
    split P v w rest true e here there k = let f : w ≡ v = (bytes_eq-Decides w v).0 e in subst P (sym f) here
    split P v w rest false e here there k = there k

be : HasOpposite (codes "BE")
unfolding jump_of inverse_of
be = (Je, (Jne, ((refl, refl), λ psw. refl)))

bne : HasOpposite (codes "BNE")
unfolding jump_of inverse_of
bne = (Jne, (Je, ((refl, refl), λ psw. twice _)))

bh : HasOpposite (codes "BH")
unfolding jump_of inverse_of
bh = (Jh, (Jnh, ((refl, refl), λ psw. refl)))

bnh : HasOpposite (codes "BNH")
unfolding jump_of inverse_of
bnh = (Jnh, (Jh, ((refl, refl), λ psw. twice _)))

bgt : HasOpposite (codes "BGT")
unfolding jump_of inverse_of
bgt = (Jgt, (Jle, ((refl, refl), λ psw. twice _)))

ble : HasOpposite (codes "BLE")
unfolding jump_of inverse_of
ble = (Jle, (Jgt, ((refl, refl), λ psw. refl)))

bge : HasOpposite (codes "BGE")
unfolding jump_of inverse_of
bge = (Jge, (Jlt, ((refl, refl), λ psw. twice _)))

blt : HasOpposite (codes "BLT")
unfolding jump_of inverse_of
blt = (Jlt, (Jge, ((refl, refl), λ psw. refl)))

bc : HasOpposite (codes "BC")
unfolding jump_of inverse_of
bc = (Jc, (Jnc, ((refl, refl), λ psw. refl)))

bnc : HasOpposite (codes "BNC")
unfolding jump_of inverse_of
bnc = (Jnc, (Jc, ((refl, refl), λ psw. twice _)))

bv : HasOpposite (codes "BV")
unfolding jump_of inverse_of
bv = (Jv, (Jnv, ((refl, refl), λ psw. refl)))

bnv : HasOpposite (codes "BNV")
unfolding jump_of inverse_of
bnv = (Jnv, (Jv, ((refl, refl), λ psw. twice _)))

bvt : HasOpposite (codes "BVT")
unfolding jump_of inverse_of
bvt = (Jvt, (Jnvt, ((refl, refl), λ psw. refl)))

bnvt : HasOpposite (codes "BNVT")
unfolding jump_of inverse_of
bnvt = (Jnvt, (Jvt, ((refl, refl), λ psw. twice _)))

bst : HasOpposite (codes "BST")
unfolding jump_of inverse_of
bst = (Jst, (Jnst, ((refl, refl), λ psw. refl)))

bnst : HasOpposite (codes "BNST")
unfolding jump_of inverse_of
bnst = (Jnst, (Jst, ((refl, refl), λ psw. twice _)))

bbc : HasTests (codes "BBC")
unfolding jump_of inverse_of
bbc = (Jbc, (Jbs, ((refl, refl), (false, (refl, refl)))))

bbs : HasTests (codes "BBS")
unfolding jump_of inverse_of
bbs = (Jbs, (Jbc, ((refl, refl), (true, (refl, refl)))))

abbrev branches : List (List ℕ)
branches = codes "BE" ∷ codes "BNE" ∷ codes "BH" ∷ codes "BNH" ∷ codes "BGT" ∷ codes "BLE" ∷ codes "BGE" ∷ codes "BLT" ∷ codes "BC" ∷ codes "BNC" ∷ codes "BV" ∷ codes "BNV" ∷ codes "BVT" ∷ codes "BNVT" ∷ codes "BST" ∷ codes "BNST" ∷ []

pub conditions_are_opposite : (word : List ℕ) → is_generic_conditional word ≡ true → HasOpposite word
conditions_are_opposite w h = one_of HasOpposite branches w (be, (bne, (bh, (bnh, (bgt, (ble, (bge, (blt, (bc, (bnc, (bv, (bnv, (bvt, (bnvt, (bst, (bnst, tt)))))))))))))))) h

abbrev tests : List (List ℕ)
tests = codes "BBC" ∷ codes "BBS" ∷ []

pub tests_are_opposite : (word : List ℕ) → is_one_of tests word ≡ true → HasTests word
tests_are_opposite w h = one_of HasTests tests w (bbc, (bbs, tt)) h

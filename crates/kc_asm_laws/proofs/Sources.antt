-- What is known of the statements of a text, and of the relocatable bytes of their unlinked module.
use Rattle.std.proofs.Common.{◌≡◌, ℕ, ◌+◌, Bool, true, List, [], ◌∷◌, ◌++◌, reverse, refl, sym, ◌∙◌, subst, inl, inr, arith}
use Rattle.std.specs.Prelude.{Some, None, slice_get, ◌⊎◌}
use Rattle.std.specs.List.{list_all}
use Rattle.std.proofs.lemmas.Bool.{and_parts, and_from}
use Rattle.kc_source_statement.specs.declared.statement.Stmt.{Stmt}
use Rattle.kc_source_statement.specs.Trees.{action_tree}
use Rattle.kc_asm_symbols.specs.Located.{Located, first_segment, value_at}
use Rattle.kc_asm_symbols.specs.Externals.{action_trees}
use Rattle.kc_asm_symbols.specs.Meanings.{meaning}
use Rattle.kc_asm_encode.specs.declared.relocatable_byte.RelocatableByte.{RelocatableByte}
use Rattle.kc_asm_encode.specs.declared.relocatable_byte.RelocatableByte.TheVariants.{Plain}
use Rattle.kc_asm_encode.specs.Laws.{NumbersAreWords}
use Rattle.kc_asm_section.specs.declared.unlinked.UnlinkedModule.{UnlinkedModule}
use Rattle.kc_asm_section.specs.Section.{Section, relocatable_byte_at}
use Rattle.kc_asm_section.specs.Order.{start_of}
use Rattle.kc_asm_layout.specs.declared.location.Location.{Location}
use Rattle.kc_asm_check.specs.Checking.{first_fault, location_list, standing, place_at}
use Rattle.kc_asm_unlinked_laws.specs.Collecting.{IsUnlinkedModuleOf}
use Rattle.kc_asm_unlinked_laws.specs.Stood.{HasRelocatableBytes, IsOfStatement, NothingElseStands}
use Rattle.kc_asm.specs.Assembled.{AreSaid}
use Rattle.kc_asm.proofs.Characters.{trees_alike}
use Rattle.kc_asm.specs.Characters.{all_bytes, has_bytes}
use Rattle.kc_asm.proofs.Words.{IsWordAnswer}
use Rattle.kc_asm.proofs.Meanings.{split_test, standing_test, places_are_words, has_all_bytes, meaning_word}
use Rattle.kc_source_laws.specs.Strings.{strings_pass, items_pass, action_passes}
use Rattle.kc_source_laws.specs.Lines as lines
use Rattle.kc_source_laws.specs.Lines.{is_good_statement, is_line_of, StatementsAreOfTheText}
use Rattle.kc_asm_laws.proofs.RelocatableBytes.{IsGoodRelocatableByte, AllGood, good_at, content_good}

-- ---- characters are bytes

-- a statement has the number of a line, its expressions have bytes, and so have its items
pub record AreBytes (text : List ℕ) (stmts : List Stmt) : Type 0 where
  pub lines_of : list_all (λ s. is_line_of text s.line) stmts ≡ true
  pub characters : list_all has_bytes stmts ≡ true
  pub items : list_all (λ s. items_pass lines.are_bytes (action_tree s.action)) stmts ≡ true

each_bytes : (text : List ℕ) (stmts : List Stmt) → list_all (is_good_statement (is_line_of text)) stmts ≡ true → AreBytes text stmts
each_bytes text [] h = record { lines_of = refl; characters = refl; items = refl }
each_bytes text (s ∷ ss) h =
    let both = and_parts (is_good_statement (is_line_of text) s) (list_all (is_good_statement (is_line_of text)) ss) h in
    let parts = and_parts (is_line_of text s.line) (action_passes lines.are_bytes (action_tree s.action)) both.0 in
    let strings = and_parts (list_all (strings_pass lines.are_bytes) (action_trees (action_tree s.action))) (items_pass lines.are_bytes (action_tree s.action)) parts.1 in
    let rest = each_bytes text ss both.1 in
    let here : has_bytes s ≡ true = sym (trees_alike (action_trees (action_tree s.action))) ∙ strings.0 in
    record {
      lines_of = and_from (is_line_of text s.line) (list_all (λ (x : Stmt). is_line_of text x.line) ss) parts.0 rest.lines_of;
      characters = and_from (has_bytes s) (list_all has_bytes ss) here rest.characters;
      items = and_from (items_pass lines.are_bytes (action_tree s.action)) (list_all (λ (x : Stmt). items_pass lines.are_bytes (action_tree x.action)) ss) strings.1 rest.items;
    }

pub said_bytes : StatementsAreOfTheText → (text : List ℕ) (stmts : List Stmt) → AreSaid text stmts → AreBytes text stmts
said_bytes law text stmts said = each_bytes text stmts (law text said.1.0 said.0 stmts said.1.1 said.1.2 said.2)

-- ---- relocatable bytes

abbrev pub texts_have_bytes : List Stmt → Type 0
texts_have_bytes stmts = list_all has_all_bytes (standing stmts) ≡ true

pub standing_bytes : (text : List ℕ) (stmts : List Stmt) → AreBytes text stmts → list_all has_all_bytes (standing stmts) ≡ true
standing_bytes text stmts are = standing_test all_bytes (λ i g. value_at g (place_at (location_list stmts) i)) 0 first_segment stmts are.characters

pub names_words : (text : List ℕ) (stmts : List Stmt) → AreBytes text stmts → (before after : List Located) (l : Located) → standing stmts ≡ reverse before ++ l ∷ after → (q : List ℕ) → IsWordAnswer (meaning (standing stmts) before l q)
names_words text stmts are before after l split = meaning_word (standing stmts) (places_are_words (place_at (location_list stmts)) 0 first_segment stmts) (standing_bytes text stmts are) before after l split

abbrev items_at : Located → Bool
items_at l = items_pass lines.are_bytes l.action

statement_good : NumbersAreWords → (text : List ℕ) (stmts : List Stmt) → AreBytes text stmts → (before : List Located) (l : Located) (s : Location) (os : List RelocatableByte) → HasRelocatableBytes (standing stmts) (location_list stmts) before l s os → AllGood os
statement_good law text stmts are before l s os h =
    content_good law (meaning (standing stmts) before l) (names_words text stmts are before h.after l h.split) s.form l.here l.action
    (split_test has_all_bytes (standing stmts) before h.after l (standing_bytes text stmts are) h.split).1
    (split_test items_at (standing stmts) before h.after l (standing_test (items_pass lines.are_bytes) (λ i g. value_at g (place_at (location_list stmts) i)) 0 first_segment stmts are.items) h.split).1 os h.relocatable_bytes

pub unlinked_good : NumbersAreWords → NothingElseStands → (text : List ℕ) (stmts : List Stmt) (d : UnlinkedModule) → AreBytes text stmts → first_fault stmts ≡ None → IsUnlinkedModuleOf stmts d
    → (part offset : ℕ) (t : Section) (o : RelocatableByte) → slice_get d.parts.items part ≡ Some t → relocatable_byte_at t offset ≡ Some o → IsGoodRelocatableByte o
unlinked_good law nothing text stmts d are sound collected part offset t o e f = by (nothing stmts d sound collected part offset t o e f)
  where
    by : (o ≡ Plain 255) ⊎ IsOfStatement (standing stmts) (location_list stmts) part (start_of t.at + offset) o → IsGoodRelocatableByte o
    by (inl g) = subst IsGoodRelocatableByte (sym g) (omega arith)
    by (inr g) = good_at g.os g.index o (statement_good law text stmts are g.before g.l g.s g.os g.statement) g.relocatable_byte

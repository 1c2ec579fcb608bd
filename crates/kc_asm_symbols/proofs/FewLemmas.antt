-- How many externals the statements of a source without a fault have.
use Rattle.std.proofs.Common.{◌≡◌, ℕ, ◌+◌, ◌<◌, ◌≤◌, Bool, true, false, cond, not, ◌||◌, ◌&&◌, List, [], ◌∷◌, ◌++◌, length, refl, ap, arith, length-append}
use Rattle.std.specs.Prelude.{map, nat_le, Option, Some, None}
use Rattle.std.specs.Option.{option_to_list}
use Rattle.std.specs.Str.{bytes_eq}
use Rattle.std.proofs.lemmas.List.{length-map}
use Rattle.std.proofs.lemmas.Bool.{or_parts}
use Rattle.std.proofs.lemmas.Bool.Decides.{nat_tests}
use Rattle.kc_obj_module.specs.declared.parts.SegKind.{SegKind}
use Rattle.kc_obj_module.specs.Pieces.{is_register_kind}
use Rattle.kc_expr.specs.declared.values.Value.{Value}
use Rattle.kc_lex.proofs.FaultLemmas.{no_least, nothing_left, no_code_at}
use Rattle.kc_source_statement.specs.declared.statement.Stmt.{Stmt}
use Rattle.kc_source_statement.specs.Trees.{ActionTree, action_tree, Bare, Module, Cseg, Dseg, Rseg, Sseg, Public, Extrn, Equ, Set, Define, Reserve, Org, Even, End, Operation}
use Rattle.kc_source.specs.declared.uses.Use.{Use}
use Rattle.kc_source.specs.declared.uses.UseKind.{UseKind}
use Rattle.kc_source.specs.declared.uses.UseKind.TheVariants.{Once, Again, Given}
use Rattle.kc_source.specs.declared.uses.UseKind.TheVariants as uses
use Rattle.kc_source.proofs.ClearLemmas.{not_first, not_second}
use Rattle.kc_source.specs.Faults.{at_line, has_use, is_once, is_again, is_taken, is_defined, brings_name, name_count, is_one_too_many, use_code, name_faults, line_faults, faults_of, all_said, use_of, label_uses, action_uses, uses_of, all_uses, stmt_said}
use Rattle.kc_asm_symbols.specs.declared.segments.Segment.{Segment}
use Rattle.kc_asm_symbols.specs.Located.{located_from, segment_after, first_segment}
use Rattle.kc_asm_symbols.specs.Externals.{declared_names, declared, statement_uses_stack, taken, stack_name, externals_from}
use Rattle.kc_asm_symbols.specs.Few.{ExternalsAreFew}

-- ---- uses that take a name

abbrev takes_one : UseKind → ℕ
takes_one Once = 0
takes_one Again = 0
takes_one uses.Taken = 1
takes_one Given = 0

abbrev takes : List Use → ℕ
takes [] = 0
takes (u ∷ us) = takes_one u.kind + takes us

takes_append : (us vs : List Use) → takes (us ++ vs) ≡ takes us + takes vs
takes_append [] vs = omega arith
takes_append (u ∷ us) vs = let e : takes (us ++ vs) ≡ takes us + takes vs = takes_append us vs in omega (arith, e)

takes_taken : (line : ℕ) (names : List (List ℕ)) → takes (map (use_of line uses.Taken) names) ≡ length names
takes_taken line [] = refl
takes_taken line (n ∷ ns) = let e : takes (map (use_of line uses.Taken) ns) ≡ length ns = takes_taken line ns in omega (arith, e)

takes_given : (line : ℕ) (names : List (List ℕ)) → takes (map (use_of line Given) names) ≡ 0
takes_given line [] = refl
takes_given line (n ∷ ns) = let e : takes (map (use_of line Given) ns) ≡ 0 = takes_given line ns in omega (arith, e)

takes_label : (line : ℕ) (label : Option (List ℕ)) → takes (label_uses line label) ≡ 0
takes_label line None = refl
takes_label line (Some name) = refl

takes_action : (line : ℕ) (a : ActionTree) → takes (action_uses line a) ≡ length (declared_names a)
takes_action line (Extrn names) = takes_taken line names
takes_action line (Public names) = takes_given line names
takes_action line (Equ name x) = refl
takes_action line (Set name x) = refl
takes_action line Bare = refl
takes_action line (Module name stack) = refl
takes_action line (Cseg at) = refl
takes_action line (Dseg at) = refl
takes_action line (Rseg at) = refl
takes_action line (Sseg size) = refl
takes_action line (Define size items) = refl
takes_action line (Reserve size x) = refl
takes_action line (Org x) = refl
takes_action line Even = refl
takes_action line End = refl
takes_action line (Operation name args) = refl

-- ---- the length of the list

abbrev stack_left : Bool → ℕ
stack_left used = cond used 0 1

one_stack : (s used : Bool) → length (cond (s && not used) (taken false stack_name ∷ []) []) + stack_left (used || s) ≡ stack_left used
one_stack true true = refl
one_stack true false = refl
one_stack false true = refl
one_stack false false = refl

declared_length : (used : Bool) (kind : SegKind) (a : ActionTree) → length (declared used kind a) + stack_left (used || statement_uses_stack a) ≡ length (declared_names a) + stack_left used
declared_length used kind a =
    let both = length-append (map (taken (is_register_kind kind)) (declared_names a)) (cond (statement_uses_stack a && not used) (taken false stack_name ∷ []) []) in
    let names = length-map (declared_names a) (taken (is_register_kind kind)) in
    omega (arith, both, names, one_stack (statement_uses_stack a) used)

externals_length : (used : Bool) (values : ℕ → Segment → Value) (i : ℕ) (g : Segment) (ss : List Stmt) → length (externals_from used (located_from values i g ss)) ≤ takes (all_uses (map stmt_said ss)) + stack_left used
unfolding externals_from located_from all_uses
externals_length used values i g [] = omega arith
externals_length used values i g (s ∷ ss) =
    let a = action_tree s.action in
    let rest = externals_length (used || statement_uses_stack a) values (i + 1) (segment_after g a) ss in
    let both = length-append (declared used g.kind a) (externals_from (used || statement_uses_stack a) (located_from values (i + 1) (segment_after g a) ss)) in
    let here = declared_length used g.kind a in
    let uses = takes_append (uses_of (stmt_said s)) (all_uses (map stmt_said ss)) in
    let of_one = takes_append (label_uses s.line s.label) (action_uses s.line a) in
    omega (arith, rest, both, here, uses, of_one, takes_label s.line s.label, takes_action s.line a)

-- ---- no more names than 16,384

parts : (a b c d e f : Bool) → ((a || b) || (c || d)) ≡ false → (e || f) ≡ false → (((a || e) || (c || f)) ≡ false) × ((b || d) ≡ false)
parts true b c d e f p q = absurd cc
parts false true c d e f p q = absurd cc
parts false false true d e f p q = absurd cc
parts false false false true e f p q = absurd cc
parts false false false false e f p q = (q, refl)

counted : (u : Use) (earlier : List Use) → name_count (u ∷ earlier) ≡ name_count earlier + cond (brings_name u earlier) 1 0
unfolding name_count
counted u earlier = refl

bounded : (b : Bool) (n : ℕ) → (b && nat_le 16384 n) ≡ false → n ≤ 16384 → n + cond b 1 0 ≤ 16384
bounded true n e within = let below : n < 16384 = grind (arith, nat_tests) in omega arith
bounded false n e within = omega arith

-- a name that is taken is a name more
brings_taken : (a b : Bool) → a ≡ false → b ≡ false → not (a || b) ≡ true
brings_taken true b p q = absurd cc
brings_taken false true p q = absurd cc
brings_taken false false p q = refl

brought : (n : ℕ) (b : Bool) → b ≡ true → 1 + n ≤ n + cond b 1 0
brought n true e = omega arith
brought n false e = absurd cc

few_by : (kind : UseKind) (line : ℕ) (name : List ℕ) (all earlier : List Use)
    → use_code kind name (is_one_too_many (record { line = line; name = name; kind = kind }) earlier) all earlier ≡ None
    → (is_defined name all ≡ false → is_defined name earlier ≡ false) → name_count earlier ≤ 16384
    → let u : Use = record { line = line; name = name; kind = kind } in (takes_one kind + name_count earlier ≤ name_count earlier + cond (brings_name u earlier) 1 0) × (name_count earlier + cond (brings_name u earlier) 1 0 ≤ 16384)
few_by Once line name all earlier code kept within =
    let u : Use = record { line = line; name = name; kind = Once } in
    let many : is_one_too_many u earlier ≡ false = not_first (is_one_too_many u earlier) 8 None (not_second (is_defined name earlier) 6 (cond (is_one_too_many u earlier) (Some 8) None) code) in
    (omega arith, bounded (brings_name u earlier) (name_count earlier) many within)
few_by Again line name all earlier code kept within =
    let u : Use = record { line = line; name = name; kind = Again } in
    let many : is_one_too_many u earlier ≡ false = not_first (is_one_too_many u earlier) 8 None (not_second (has_use is_once name earlier) 6 (cond (is_one_too_many u earlier) (Some 8) None) code) in
    (omega arith, bounded (brings_name u earlier) (name_count earlier) many within)
few_by uses.Taken line name all earlier code kept within =
    let u : Use = record { line = line; name = name; kind = uses.Taken } in
    let refused = cond (has_use is_taken name earlier || is_defined name all) (Some 21) None in
    let many : is_one_too_many u earlier ≡ false = not_first (is_one_too_many u earlier) 8 refused code in
    let free = or_parts (has_use is_taken name earlier) (is_defined name all) (not_first (has_use is_taken name earlier || is_defined name all) 21 None (not_second (is_one_too_many u earlier) 8 refused code)) in
    let brings : brings_name u earlier ≡ true = brings_taken (is_defined name earlier) (has_use is_taken name earlier) (kept free.1) free.0 in
    (brought (name_count earlier) (brings_name u earlier) brings, bounded (brings_name u earlier) (name_count earlier) many within)
few_by Given line name all earlier code kept within = (omega arith, omega arith)

few_names : (all earlier us : List Use) → name_faults all earlier us ≡ [] → name_count earlier ≤ 16384 → ((name : List ℕ) → is_defined name all ≡ false → (is_defined name earlier ≡ false) × (is_defined name us ≡ false))
    → takes us + name_count earlier ≤ 16384
unfolding name_faults has_use
few_names all earlier [] none within kept = omega arith
few_names all earlier (u ∷ us) none within kept =
    let code = use_code u.kind u.name (is_one_too_many u earlier) all earlier in
    let both = nothing_left (option_to_list (at_line u.line code)) (name_faults all (u ∷ earlier) us) none in
    let one = few_by u.kind u.line u.name all earlier (no_code_at u.line code both.0) (λ e. (kept u.name e).0) within in
    let count = counted u earlier in
    let bound : name_count (u ∷ earlier) ≤ 16384 = omega (arith, one.1, count) in
    let rest = few_names all (u ∷ earlier) us both.1 bound (λ name e.
    parts (is_once u.kind && bytes_eq name u.name) (has_use is_once name us) (is_again u.kind && bytes_eq name u.name) (has_use is_again name us) (has_use is_once name earlier) (has_use is_again name earlier) (kept name e).1 (kept name e).0) in
    omega (arith, rest, one.0, count)

no_names : name_count [] ≡ 0
unfolding name_count
no_names = refl

pub externals_are_few : ExternalsAreFew
unfolding faults_of has_use
externals_are_few ls stmts values are =
    let all = all_uses (all_said ls) in
    let none : name_faults all [] all ≡ [] = (nothing_left (line_faults true true (all_said ls)) (name_faults all [] all) (no_least (line_faults true true (all_said ls) ++ name_faults all [] all) are.sound)).1 in
    let few : takes all + name_count [] ≤ 16384 = few_names all [] all none (omega (arith, no_names)) (λ name e. (refl, e)) in
    let same : takes (all_uses (map stmt_said stmts)) ≡ takes all = ap (λ ss. takes (all_uses ss)) are.said_by in
    let long : length (externals_from false (located_from values 0 first_segment stmts)) ≤ takes (all_uses (map stmt_said stmts)) + 1 = externals_length false values 0 first_segment stmts in
    omega (arith, few, same, long, no_names)

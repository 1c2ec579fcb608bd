-- Macros as data, so that a map of names to macros can be the view of a type.
use Rattle.std.specs.Prelude.{◌≡◌, ℕ, zero, suc, Bool, List, refl}
use Rattle.std.specs.Coded.{Coded, code_by, coded×, coded_ℕ, coded_bool, coded_list}
use Rattle.kc_lex.specs.declared.token.TokenKind.{TokenKind}
use Rattle.kc_lex.specs.declared.token.TokenKind.TheVariants.{Name, Number, Chars, Sign}
use Rattle.kc_lex.specs.declared.token.Token.{Token}
use Rattle.kc_macro_body.specs.declared.macros.Locals.{Locals}
use Rattle.kc_macro_body.specs.declared.macros.Formals.{Formals}
use Rattle.kc_macro_body.specs.declared.macros.Macro.{Macro}
use Rattle.kc_base.specs.ByName.{ByName, by_name_code}

abbrev pub kind_number : TokenKind → ℕ
kind_number Name = 0
kind_number Number = 1
kind_number Chars = 2
kind_number Sign = 3

abbrev pub numbered_kind : ℕ → TokenKind
numbered_kind zero = Name
numbered_kind (suc zero) = Number
numbered_kind (suc (suc zero)) = Chars
numbered_kind (suc (suc (suc k))) = Sign

abbrev pub kind_code : Coded TokenKind
kind_code = code_by ℕ coded_ℕ kind_number numbered_kind (λ k. elim k as (λ k. numbered_kind (kind_number k) ≡ k) [ Name ↦ refl | Number ↦ refl | Chars ↦ refl | Sign ↦ refl ])

abbrev pub token_code : Coded Token
token_code = code_by (TokenKind × (List ℕ × ℕ)) (coded× kind_code (coded× (coded_list coded_ℕ) coded_ℕ)) (λ t. (t.kind, (t.text, t.value))) (λ p. record { kind = p.0; text = p.1.0; value = p.1.1 }) (λ _. refl)

abbrev pub locals_code : Coded Locals
locals_code = code_by (ByName ℕ × ℕ) (coded× (by_name_code coded_ℕ) coded_ℕ) (λ l. (l.places, l.count)) (λ p. record { places = p.0; count = p.1 }) (λ _. refl)

abbrev pub formals_code : Coded Formals
formals_code = code_by (List (List ℕ) × Locals) (coded× (coded_list (coded_list coded_ℕ)) locals_code) (λ f. (f.params, f.locals)) (λ p. record { params = p.0; locals = p.1 }) (λ _. refl)

abbrev pub macro_code : Coded Macro
macro_code = code_by (Formals × (Bool × List (List Token))) (coded× formals_code (coded× coded_bool (coded_list (coded_list token_code)))) (λ m. (m.formals, (m.sound, m.body))) (λ p. record { formals = p.0; sound = p.1.0; body = p.1.1 }) (λ _. refl)

-- The texts of values.
use Rattle.std.proofs.Common.{◌≡◌, ◌∙◌, ◌<◌, ◌^◌, ℕ, ℤ, Bool, true, false, List, [], ◌∷◌, ◌++◌, get_or, length, cond}
use Rattle.std.proofs.Common.{append-nil, ◌==◌, refl, sym, ap, codes, arith, pos, negsuc, FitsSigned}
use Rattle.std.specs.Int.{w32}
use Rattle.std.specs.Prelude.{Option, Some, None, option_map}
use Rattle.std.specs.List.{list_all}
use Rattle.std.specs.Fmt.{signed_decimal}
use Rattle.std.proofs.lemmas.Bool.{and_parts, ltb-true}
use Rattle.std.proofs.lemmas.Fmt.{decimal_nonempty}
use Rattle.std.proofs.lemmas.List.{length-append}
use Rattle.ls_events.specs.declared.value.Value.{Value}
use Rattle.ls_events.specs.declared.value.Value.TheVariants as values
use Rattle.ls_report.specs.Events.{Text}
use Rattle.ls_report.specs.Discipline.{is_shown}
use Rattle.ls_report.specs.Lines.{arguments_text, more_arguments, value_text}
use Rattle.ls_report.specs.Cut.{cut}
use Rattle.ls_report.proofs.CutLemmas.{first_of_two, none_is, second_of_two, Two, two, NoDigit, cut_at, cut_none, lacks}
use Rattle.ls_report.proofs.CutLemmas.{lacks-append, lacks-signed, without}

-- an int that has a line has 32 bits
pub fits_shown : (z : ℤ) → is_shown (values.Int z) ≡ true → FitsSigned w32 z
fits_shown (pos n) h = let lt = ltb-true n (2 ^ 31) h in omega arith
fits_shown (negsuc n) h = let lt = ltb-true n (2 ^ 31) h in omega arith

-- an int's text doesn't begin with the letter
pub no_letter : (b : ℕ) (bs : Text) (z : ℤ) → 57 < b → FitsSigned w32 z → b ∷ bs ≡ signed_decimal z → ⊥
no_letter b bs z high fits e =
    without b (b ∷ bs) (ap (lacks b) e ∙ lacks-signed b z (λ m small same. omega arith) (λ same. omega arith) fits) 0
    (omega arith) refl

first_byte : (b c : ℕ) (bs cs : Text) → b ∷ bs ≡ c ∷ cs → b ≡ c
first_byte b c bs cs e = ap (λ l. get_or l 0 0) e

-- `true` is read as true
pub reads_true : (v : Value) → is_shown v ≡ true → codes "true" ≡ value_text v → Some (values.Boolean true) ≡ Some v
reads_true (values.Int z) h e = absurd (no_letter 116 _ z (omega arith) (fits_shown z h) e)
reads_true (values.Boolean true) h e = refl
reads_true (values.Boolean false) h e = let f = first_byte 116 102 _ _ e in absurd (omega arith)
reads_true (values.Reference n) h e = absurd cc
reads_true (values.Pair n m) h e = absurd cc

-- `false` is read as false
pub reads_false : (v : Value) → is_shown v ≡ true → codes "false" ≡ value_text v → Some (values.Boolean false) ≡ Some v
reads_false (values.Int z) h e = absurd (no_letter 102 _ z (omega arith) (fits_shown z h) e)
reads_false (values.Boolean true) h e = let f = first_byte 102 116 _ _ e in absurd (omega arith)
reads_false (values.Boolean false) h e = refl
reads_false (values.Reference n) h e = absurd cc
reads_false (values.Pair n m) h e = absurd cc

-- b is a sign that is in no value's text
pub record IsSign (b : ℕ) : Type 0 where
  pub no_digit : NoDigit b
  pub no_minus : 45 ≡ b → ⊥
  pub in_true : lacks b (codes "true") ≡ true
  pub in_false : lacks b (codes "false") ≡ true

pub is_comma : IsSign 44
is_comma = record { no_digit = λ m small e. omega arith; no_minus = λ e. omega arith; in_true = refl; in_false = refl }

-- the closing parenthesis is such a sign
pub is_close : IsSign 41
is_close = record { no_digit = λ m small e. omega arith; no_minus = λ e. omega arith; in_true = refl; in_false = refl }

-- a value's text has no such sign
pub lacks-value : (b : ℕ) (v : Value) → IsSign b → is_shown v ≡ true → lacks b (value_text v) ≡ true
lacks-value b (values.Int z) s h = lacks-signed b z s.no_digit s.no_minus (fits_shown z h)
lacks-value b (values.Boolean true) s h = s.in_true
lacks-value b (values.Boolean false) s h = s.in_false
lacks-value b (values.Reference n) s h = absurd cc
lacks-value b (values.Pair n m) s h = absurd cc

-- the line feed is such a sign
pub is_feed : IsSign 10
is_feed = record { no_digit = λ m small e. omega arith; no_minus = λ e. omega arith; in_true = refl; in_false = refl }

lacks-more : (b : ℕ) (vs : List Value) →
    IsSign b →
    lacks b (codes ", ") ≡ true →
    list_all is_shown vs ≡ true →
    lacks b (more_arguments vs) ≡ true
lacks-more b [] s c h = refl
lacks-more b (v ∷ vs) s c h =
    let p = and_parts (is_shown v) (list_all is_shown vs) h in
    lacks-append b (codes ", " ++ value_text v) (more_arguments vs)
    (lacks-append b (codes ", ") (value_text v) c (lacks-value b v s p.0)) (lacks-more b vs s c p.1)

-- the text of arguments has no such sign
pub lacks-arguments : (b : ℕ) (vs : List Value) →
    IsSign b →
    lacks b (codes ", ") ≡ true →
    list_all is_shown vs ≡ true →
    lacks b (arguments_text vs) ≡ true
lacks-arguments b [] s c h = refl
lacks-arguments b (v ∷ vs) s c h =
    let p = and_parts (is_shown v) (list_all is_shown vs) h in
    lacks-append b (value_text v) (more_arguments vs) (lacks-value b v s p.0) (lacks-more b vs s c p.1)

-- ---- arguments, one after the other

nonempty : (v : Value) → is_shown v ≡ true → 0 < length (value_text v)
nonempty (values.Int (pos n)) h = let lt = ltb-true n (2 ^ 31) h in decimal_nonempty n (omega arith)
nonempty (values.Int (negsuc n)) h = omega arith
nonempty (values.Boolean true) h = omega arith
nonempty (values.Boolean false) h = omega arith
nonempty (values.Reference n) h = absurd cc
nonempty (values.Pair n m) h = absurd cc

-- an empty text has no arguments
pub no_values : (vs : List Value) → list_all is_shown vs ≡ true → length (arguments_text vs) ≡ 0 → vs ≡ []
no_values [] h e = refl
no_values (v ∷ vs) h e =
    let some = nonempty v (and_parts (is_shown v) (list_all is_shown vs) h).0 in
    absurd (omega (arith, length-append (value_text v) (more_arguments vs)))

-- at a comma, a value comes before it and others come after it
pub record Comma (back : List Value) (first others : Text) : Type 0 where
  pub value : Value
  pub next : Value
  pub more : List Value
  pub is : back ≡ value ∷ next ∷ more
  pub first_is : first ≡ value_text value
  pub others_is : others ≡ 32 ∷ arguments_text (next ∷ more)
  pub shown : is_shown value ≡ true
  pub more_shown : list_all is_shown (next ∷ more) ≡ true

-- one argument has no comma
pub one_value : (v : Value) → is_shown v ≡ true → cut 44 (arguments_text (v ∷ [])) ≡ None
one_value v h = ap (cut 44) (append-nil (value_text v)) ∙ cut_none 44 (value_text v)
    (without 44 (value_text v) (lacks-value 44 v is_comma h))

-- two arguments have a comma between them
pub two_values : (v w : Value) (vs : List Value) →
    is_shown v ≡ true →
    cut 44 (arguments_text (v ∷ w ∷ vs)) ≡ two (value_text v) (32 ∷ arguments_text (w ∷ vs))
two_values v w vs h = cut_at 44 (value_text v) (32 ∷ arguments_text (w ∷ vs))
    (without 44 (value_text v) (lacks-value 44 v is_comma h))

-- at a comma: the first argument and the others
pub at_comma : (back : List Value) (first others : Text) → list_all is_shown back ≡ true
    → two first others ≡ cut 44 (arguments_text back) → Comma back first others
at_comma [] first others h e = absurd (none_is (sym e))
at_comma (v ∷ []) first others h e = absurd (none_is (sym (e ∙ one_value v (and_parts (is_shown v) true h).0)))
at_comma (v ∷ w ∷ vs) first others h e =
    let p = and_parts (is_shown v) (list_all is_shown (w ∷ vs)) h in
    let same = e ∙ two_values v w vs p.0 in
    record {
      value = v;
      next = w;
      more = vs;
      is = refl;
      first_is = first_of_two first others _ _ same;
      others_is = second_of_two first others _ _ same;
      shown = p.0;
      more_shown = p.1;
    }

-- if there is no comma, one value is left
pub record Last (back : List Value) : Type 0 where
  pub value : Value
  pub is : back ≡ value ∷ []
  pub text_is : arguments_text back ≡ value_text value
  pub shown : is_shown value ≡ true

-- without a comma: the last argument
pub at_last : (back : List Value) →
    list_all is_shown back ≡ true →
    0 < length back →
    None ≡ cut 44 (arguments_text back) →
    Last back
at_last [] h some e = absurd (omega arith)
at_last (v ∷ []) h some e = record {
  value = v;
  is = refl;
  text_is = append-nil (value_text v);
  shown = (and_parts (is_shown v) true h).0;
}
at_last (v ∷ w ∷ vs) h some e =
    absurd (none_is (e ∙ two_values v w vs (and_parts (is_shown v) (list_all is_shown (w ∷ vs)) h).0))

-- the rest after a cut is shorter
pub cut_shorter : (b : ℕ) (bs x y : Text) → two x y ≡ cut b bs → length y < length bs
cut_shorter b [] x y e = absurd (none_is (sym e))
cut_shorter b (c ∷ cs) x y e = go (c == b) (cut b cs) (λ p q. cut_shorter b cs p q) e
  where
    go : (t : Bool) (o : Option Two) → ((p q : Text) → two p q ≡ o → length q < length cs)
        → two x y ≡ cond t (two [] cs) (option_map (λ p. (c ∷ p.0, p.1)) o) → length y < length (c ∷ cs)
    go true o next k = omega (arith, ap length (second_of_two x y [] cs k))
    go false None next k = absurd (none_is (sym k))
    go false (Some p) next k = omega (arith, ap length (second_of_two x y (c ∷ p.0) p.1 k), next p.0 p.1 refl)

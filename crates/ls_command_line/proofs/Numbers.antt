-- What a typed getter reads of an option with a number.
use Rattle.std.proofs.Common.{◌≡◌, ◌<◌, ℕ, Bool, true, false, cond, refl, ap, arith, Option, Some, None, Ok, Err}
use Rattle.std.specs.Prelude.{Result, unwrap_or}
use Rattle.std.specs.Str.Parse.{ParsesUnsigned, digits_value, without_leading_plus}
use Rattle.clap.specs.Words.{Text, ReadsOne}
use Rattle.clap.specs.ValueTests.{accepts}
use Rattle.clap.proofs.ValueTestLemmas.{accepts-Accepts, Accepts-accepts}
use Rattle.ls_command_line.specs.Words.{number_in, number_or, u64_parser}

-- the number that `get_one` answers, or the default where it answers none
pub read_number : {E : Type 0} (G : Text → Result ℕ E → Type 0) →
    ((t : Text) (r : Result ℕ E) → G t r → ParsesUnsigned 64 10 t r)
    → (o : Option Text) (d : ℕ) (r : Option ℕ) → (o ≡ None → r ≡ None) → ((t : Text) → o ≡ Some t → ReadsOne G t r)
    → unwrap_or r d ≡ number_or d o
read_number G p None d r none value = rw (none refl) refl
read_number G p (Some t) d (Some v) none value =
    let h = p t (Ok v) (value t refl) in
    let fits : digits_value 10 (without_leading_plus t) < 18446744073709551616 = h.0.1 in
    rw (Accepts-accepts false u64_parser t (h.0.0, h.0.1, omega arith, omega arith)) h.1
read_number {E} G p (Some t) d None none value = go (accepts false u64_parser t) refl
  where
    go : (b : Bool) →
        accepts false u64_parser t ≡ b →
        d ≡ cond (accepts false u64_parser t) (digits_value 10 (without_leading_plus t)) d
    go true e =
        let a = accepts-Accepts false u64_parser t e in
        let got = value t refl in
        absurd (p t (Err got.0) got.1 (a.0, a.1))
    go false e = rw e refl

-- the number that `get_one` answers, if it answers one
pub read_asked : {E : Type 0} (G : Text → Result ℕ E → Type 0) →
    ((t : Text) (r : Result ℕ E) → G t r → ParsesUnsigned 64 10 t r)
    → (o : Option Text) (r : Option ℕ) → (o ≡ None → r ≡ None) → ((t : Text) → o ≡ Some t → ReadsOne G t r)
    → r ≡ number_in o
read_asked G p None r none value = none refl
read_asked G p (Some t) (Some v) none value =
    let h = p t (Ok v) (value t refl) in
    let fits : digits_value 10 (without_leading_plus t) < 18446744073709551616 = h.0.1 in
    rw (Accepts-accepts false u64_parser t (h.0.0, h.0.1, omega arith, omega arith)) (ap (λ n. Some n) h.1)
read_asked {E} G p (Some t) None none value = go (accepts false u64_parser t) refl
  where
    go : (b : Bool) →
        accepts false u64_parser t ≡ b →
        None ≡ cond (accepts false u64_parser t) (Some (digits_value 10 (without_leading_plus t))) None
    go true e =
        let a = accepts-Accepts false u64_parser t e in
        let got = value t refl in
        absurd (p t (Err got.0) got.1 (a.0, a.1))
    go false e = rw e refl

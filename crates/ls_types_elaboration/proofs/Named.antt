-- What is found by its name in a list of names.
use Rattle.std.proofs.Common.{◌≡◌, ℕ, suc, ◌+◌, Bool, true, false, cond, nat_lt, List, [], ◌∷◌, length, Option, None}
use Rattle.std.proofs.Common.{Some, option_map, refl, ◌∙◌, arith}
use Rattle.std.specs.Global.{Global}
use Rattle.std.specs.List.{position, position_or_len}
use Rattle.std.specs.Prelude.{if◌then◌else◌, String, string_bytes}
use Rattle.std.specs.Str.{bytes_eq}
use Rattle.ls_types_elaboration.specs.Trees.{Text}
use Rattle.ls_types_elaboration.specs.Known.{number_of}
use Rattle.ls_types_elaboration.specs.Tables.{texts_of}

-- a place, seen from one element earlier
abbrev pub next : Option ℕ → Option ℕ
next i = option_map (λ i. i + 1) i

first : (l : ℕ) → cond {A = Option ℕ} (nat_lt 0 (suc l)) (Some 0) None ≡ Some 0
first l = grind arith

behind : (n l : ℕ) → cond (nat_lt (1 + n) (suc l)) (Some (1 + n)) None ≡ next (cond (nat_lt n l) (Some n) None)
behind n l = grind arith

-- the place of the first item that passes, or of one after it
pub position_from_first : {K : Type 0} (p : K → Bool) (k : K) (ks : List K)
    → position p (k ∷ ks) ≡ (if p k then Some 0 else next (position p ks))
position_from_first p k ks = by (p k) refl
  where
    by : (b : Bool) → p k ≡ b → position p (k ∷ ks) ≡ (if p k then Some 0 else next (position p ks))
    by true e = rw e (first (length ks))
    by false e = rw e (behind (position_or_len p ks) (length ks))

-- a name's number
pub number_found : (names : List (String Global)) (name : Text)
    → position (λ n. bytes_eq (string_bytes n) name) names ≡ number_of (texts_of names) name
number_found [] name = refl
number_found (n ∷ ns) name =
    position_from_first (λ n. bytes_eq (string_bytes n) name) n ns
    ∙ (λ j. if bytes_eq (string_bytes n) name then Some 0 else next (number_found ns name j))

-- Texts, each once, and their numbers.
use Rattle.std.proofs.Common.{◌≡◌, ◌≢◌, ℕ, Bool, true, false, List, [], ◌∷◌, ◌++◌, AllPairs, map, Some}
use Rattle.std.proofs.Common.{bytes_eq, get_or, if◌then◌else◌, position, slice_get, subst, sym}
use Rattle.std.proofs.lemmas.List.Quantifiers.{position-Some}
use Rattle.std.proofs.lemmas.Map.Made.{AllPairs-from_IsDistinct}
use Rattle.std.proofs.lemmas.Option.{slice_get-get_or}
use Rattle.std.proofs.lemmas.Slice.Eq.{bytes_eq-Decides}
use Rattle.std.specs.Global.{Global}
use Rattle.std.specs.List.{AllByRecursion, IsDistinct, list_any}
use Rattle.std.specs.Prelude.{String, string_bytes}
use Rattle.std.specs.String.{string_eq}
use Rattle.indexmap.specs.IndexSet.{insert_key}
use Rattle.ls_report.specs.Events.{Text}
use Rattle.ls_transitions.specs.Tables.{Keeps}
use Rattle.ls_transitions.proofs.Keeping.{keeps_more, stands}

-- ---- each text once

seen_apart : (k : String Global) (ks : List (String Global)) → AllByRecursion (λ y. string_eq k y ≡ false) ks →
    AllByRecursion (λ t. bytes_eq (string_bytes k) t ≡ false) (map string_bytes ks)
seen_apart k [] h = tt
seen_apart k (x ∷ xs) h = (h.0, seen_apart k xs h.1)

seen_distinct : (ks : List (String Global)) → IsDistinct string_eq ks → IsDistinct bytes_eq (map string_bytes ks)
unfolding IsDistinct
seen_distinct [] h = tt
seen_distinct (k ∷ ks) h = (seen_apart k ks h.0, seen_distinct ks h.1)

-- no two texts of a set are the same
pub texts_once : (ks : List (String Global)) → IsDistinct string_eq ks →
    AllPairs (λ (p q : Text). p ≢ q) (map string_bytes ks)
texts_once ks h = AllPairs-from_IsDistinct bytes_eq-Decides (map string_bytes ks) (seen_distinct ks h)

-- ---- the number of a text

-- a key that is the text stands for it
pub text_there : (ks : List (String Global)) (text : Text) (n : ℕ) (k : String Global) → slice_get ks n ≡ Some k →
    bytes_eq text (string_bytes k) ≡ true → slice_get (map string_bytes ks) n ≡ Some text
text_there ks text n k at same =
    stands string_bytes ks n k text at (sym ((bytes_eq-Decides text (string_bytes k)).0 same))

-- so does the one that is found
pub found_there : (ks : List (String Global)) (text : Text) (n : ℕ) →
    Some n ≡ position (λ k. bytes_eq text (string_bytes k)) ks → slice_get (map string_bytes ks) n ≡ Some text
found_there [] text n e = cc
found_there (k ∷ ks) text n e =
    let found = position-Some (λ x. bytes_eq text (string_bytes x)) (k ∷ ks) n k (sym e) in
    text_there (k ∷ ks) text n (get_or (k ∷ ks) n k) (slice_get-get_or (k ∷ ks) n k found.0) found.1

-- an inserted text is one more, or none, and each keeps its number
pub keeps_inserted : (ks ls : List (String Global)) (k : String Global) → ls ≡ insert_key string_eq ks k →
    Keeps (map string_bytes ks) (map string_bytes ls)
keeps_inserted ks ls k e = by_test (list_any (string_eq k) ks) e
  where
    by_test : (b : Bool) → ls ≡ (if b then ks else ks ++ k ∷ []) → Keeps (map string_bytes ks) (map string_bytes ls)
    by_test true e = subst (λ l. Keeps (map string_bytes ks) (map string_bytes l)) (sym e) (λ n x h. h)
    by_test false e = keeps_more string_bytes ks ls k e

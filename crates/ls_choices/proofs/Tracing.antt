-- Walks over a graph and what `trace` prints.
use Rattle.std.proofs.Common.{◌≡◌, ℕ, ◌+◌, List, [], ◌∷◌, ◌++◌, length, refl, sym, ap, ◌∙◌, arith, take}
use Rattle.std.proofs.Common.{suc, Option, None, Some, true}
use Rattle.std.specs.Prelude.{nat_le, slice_get, option_map, if◌then◌else◌}
use Rattle.std.specs.Option.{option_and_then}
use Rattle.std.specs.Fmt.{decimal}
use Rattle.std.proofs.lemmas.List.{append_assoc}
use Rattle.std.proofs.lemmas.Bool.Decides.{nat_tests}
use Rattle.ls_report.specs.Events.{Text}
use Rattle.ls_labels.specs.Names.{Names}
use Rattle.ls_trace.specs.Told.{Told, after_step, begun}
use Rattle.ls_trace.specs.Lines.{lines}
use Rattle.ls_choices.specs.Alike.{Alike}
use Rattle.ls_choices.specs.Schedules.{told_after, told_from, words_of}
use Rattle.ls_choices.specs.Rows.{Graph, IsGraphFrom, Row}
use Rattle.ls_choices.specs.Walks.{numbered, words_along}
use Rattle.ls_choices.specs.Laws.{WalksAreTraced, whole_trace}
use Rattle.ls_choices.proofs.Steps.{after_alike, alike_then}
use Rattle.ls_choices.proofs.Words.{words_same}

-- ---- lines of `trace`, each of which is told

abbrev pub told_words : Names → Told → List ℕ → List Text
told_words names r [] = []
told_words names r (t ∷ ts) = words_of names r t ∷ told_words names (after_step names r t) ts

-- all lines
lines_told : (names : Names) (n : ℕ) (r : Told) (ts : List ℕ) → lines names 1 (n + 1) r ts ≡
    numbered (n + 1) (told_words names r ts)
lines_told names n r [] = refl
lines_told names n r (t ∷ ts) =
    let is : nat_le 1 (n + 1) ≡ true = grind (arith, nat_tests) in
    ap (λ b. (if b then decimal (n + 1) ++ (32 ∷ (words_of names r t ++ 10 ∷ [])) else []) ++
    lines names 1 (n + 1 + 1) (after_step names r t) ts) is
    ∙ ap (λ l. (decimal (n + 1) ++ (32 ∷ (words_of names r t ++ 10 ∷ []))) ++ l)
    (lines_told names (n + 1) (after_step names r t) ts)

-- one schedule after another
numbered_more : (n m : ℕ) (xs ys : List Text) → n + length xs ≡ m →
    numbered n (xs ++ ys) ≡ numbered n xs ++ numbered m ys
numbered_more n m [] ys e = let same : n ≡ m = omega (arith, e) in ap (λ k. numbered k ys) same
numbered_more n m (x ∷ xs) ys e =
    ap (λ l. (decimal n ++ (32 ∷ (x ++ 10 ∷ []))) ++ l) (numbered_more (n + 1) m xs ys (omega (arith, e)))
    ∙ sym (append_assoc (decimal n ++ (32 ∷ (x ++ 10 ∷ []))) (numbered (n + 1) xs) (numbered m ys))

words_more : (names : Names) (r : Told) (ss ts : List ℕ) →
    told_words names r (ss ++ ts) ≡ told_words names r ss ++ told_words names (told_from names r ss) ts
words_more names r [] ts = refl
words_more names r (s ∷ ss) ts = ap (λ l. words_of names r s ∷ l) (words_more names (after_step names r s) ss ts)

words_length : (names : Names) (r : Told) (ts : List ℕ) → length (told_words names r ts) ≡ length ts
words_length names r [] = refl
words_length names r (t ∷ ts) = ap suc (words_length names (after_step names r t) ts)

take_whole : (ts : List ℕ) → take (length ts) ts ≡ ts
take_whole [] = refl
take_whole (t ∷ ts) = ap (λ l. t ∷ l) (take_whole ts)

whole_is : (names : Names) (ts : List ℕ) →
    whole_trace names ts ≡ numbered 1 (told_words names (begun names.program) ts)
whole_is names ts =
    ap (lines names 1 1 (begun names.program)) (take_whole ts) ∙ lines_told names 0 (begun names.program) ts

-- ---- walks

-- what is told along a walk is what is told after a run that is like its first state
abbrev IsTold : Names → Graph → ℕ → List ℕ → Type 0
IsTold names g number ts = (path : List ℕ) (r : Told) (ws : List Text) → slice_get g.paths number ≡ Some path →
    Alike names r (told_after names path) → words_along g number ts ≡ Some ws → ws ≡ told_words names r ts

along : (names : Names) (first : List ℕ) (g : Graph) → IsGraphFrom names first g →
    (ts : List ℕ) (number : ℕ) → IsTold names g number ts
along names first g is [] number path r ws at like e = cc
along names first g is (t ∷ ts) number path r ws at like e =
    by_rows (λ to. along names first g is ts to) (slice_get g.rows number) refl e
  where
    by_rest : ((to : ℕ) → IsTold names g to ts) → (row : Row) (rows : List Row) (to : ℕ) (rest : Option (List Text)) →
        slice_get g.rows number ≡ Some rows → slice_get rows t ≡ Some row → row.to ≡ Some to →
        words_along g to ts ≡ rest →
        option_map (λ l. row.words ∷ l) rest ≡ Some ws → ws ≡ told_words names r (t ∷ ts)
    by_rest on row rows to None er ew et ea e = cc
    by_rest on row rows to (Some rest) er ew et ea e =
        let found = is.rows number path rows at er t row ew in
        let leads = found.leads to et in
        let here : row.words ≡ words_of names r t = found.words ∙
        sym (words_same names r (told_after names path) t like) in
        let later : rest ≡ told_words names (after_step names r t) ts =
        on to leads.path (after_step names r t) rest leads.found
        (alike_then names (after_step names r t) (after_step names (told_after names path) t)
        (told_after names leads.path) (after_alike names r (told_after names path) t like) leads.alike) ea in
        let whole : ws ≡ row.words ∷ rest = cc in
        whole ∙ ap (λ w. w ∷ rest) here ∙ ap (λ l. words_of names r t ∷ l) later

    by_to : ((to : ℕ) → IsTold names g to ts) → (row : Row) (rows : List Row) (to : Option ℕ) →
        slice_get g.rows number ≡ Some rows → slice_get rows t ≡ Some row → row.to ≡ to →
        option_and_then (λ m. option_map (λ l. row.words ∷ l) (words_along g m ts)) to ≡ Some ws →
        ws ≡ told_words names r (t ∷ ts)
    by_to on row rows None er ew et e = cc
    by_to on row rows (Some to) er ew et e = by_rest on row rows to (words_along g to ts) er ew et refl e

    by_row : ((to : ℕ) → IsTold names g to ts) → (rows : List Row) (row : Option Row) →
        slice_get g.rows number ≡ Some rows → slice_get rows t ≡ row →
        option_and_then (λ w. option_and_then (λ m. option_map (λ l. w.words ∷ l) (words_along g m ts)) w.to) row ≡
        Some ws → ws ≡ told_words names r (t ∷ ts)
    by_row on rows None er ew e = cc
    by_row on rows (Some row) er ew e = by_to on row rows row.to er ew refl e

    by_rows : ((to : ℕ) → IsTold names g to ts) → (rows : Option (List Row)) → slice_get g.rows number ≡ rows →
        option_and_then (λ w. option_and_then (λ m. option_map (λ l. w.words ∷ l) (words_along g m ts)) w.to)
        (option_and_then (λ l. slice_get l t) rows) ≡ Some ws → ws ≡ told_words names r (t ∷ ts)
    by_rows on None er e = cc
    by_rows on (Some rows) er e = by_row on rows (slice_get rows t) er refl e

pub alike_self : (names : Names) (r : Told) → Alike names r r
alike_self names r = record {
  state = record { store = refl; lists = refl; continues = λ t q. refl };
  labels = refl;
  calls = refl;
}

pub walks_are_traced : WalksAreTraced
walks_are_traced names first g is ts ws e =
    let r0 = begun names.program in
    let told : ws ≡ told_words names (told_after names first) ts =
    along names first g is ts 0 first (told_after names first) ws is.begins
    (alike_self names (told_after names first)) e in
    whole_is names (first ++ ts)
    ∙ ap (numbered 1) (words_more names r0 first ts)
    ∙ numbered_more 1 (length first + 1) (told_words names r0 first) (told_words names (told_after names first) ts)
    (omega (arith, words_length names r0 first))
    ∙ ap (λ l. l ++ numbered (length first + 1) (told_words names (told_after names first) ts))
    (sym (whole_is names first))
    ∙ ap (λ l. whole_trace names first ++ numbered (length first + 1) l) (sym told)

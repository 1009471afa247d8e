-- Which lists of threads are walks.
use Rattle.std.proofs.Common.{◌≡◌, ◌≢◌, ℕ, ◌+◌, ◌<◌, ◌≤◌, List, [], ◌∷◌, length, refl, sym, ap, ◌∙◌, arith, None}
use Rattle.std.proofs.Common.{Option, Some, below_more, subst}
use Rattle.std.specs.Prelude.{All, option_map, slice_get}
use Rattle.std.specs.Option.{option_and_then}
use Rattle.std.proofs.lemmas.List.Elements.{All-head, All-tail}
use Rattle.ls_report.specs.Events.{Text}
use Rattle.ls_transitions.proofs.Keeping.{there}
use Rattle.ls_choices.specs.Rows.{Graph, Row}
use Rattle.ls_choices.specs.Walks.{row_at, words_along}
use Rattle.ls_choices.specs.Reaching.{AreKept, IsWalk}

pub mapped : (row : Row) (rest : Option (List Text)) → rest ≢ None → option_map (λ l. row.words ∷ l) rest ≢ None
mapped row None h = λ e. h refl
mapped row (Some l) h = λ e. cc

walk : (steps count : ℕ) (depth : ℕ → ℕ) (g : Graph) → AreKept steps count depth g → (ts : List ℕ) (number : ℕ) →
    number < length g.rows → depth number + length ts ≤ steps → All (λ t. t < count) ts →
    words_along g number ts ≢ None
walk steps count depth g h [] number within near few = λ e. cc
walk steps count depth g h (t ∷ ts) number within near few =
    let rows = there g.rows number within in
    let kept = h.states number rows.0 rows.1 in
    let has = All-head (λ x. x < count) t ts few in
    let one = there rows.0 t (omega (arith, kept.threads, has)) in
    let at : row_at g number t ≡ Some one.0 = ap (λ o. option_and_then (λ l. slice_get l t) o) rows.1 ∙ one.1 in
    let on = kept.leads (omega (arith, near)) t one.0 one.1 in
    let rest = mapped one.0 (words_along g on.to ts) (walk steps count depth g h ts on.to on.within
    (omega (arith, near, on.near)) (All-tail (λ x. x < count) t ts few)) in
    subst (λ o. option_and_then (λ w. option_and_then (λ m. option_map (λ l. w.words ∷ l) (words_along g m ts)) w.to) o
    ≢ None) (sym at)
    (subst (λ o. option_and_then (λ m. option_map (λ l. one.0.words ∷ l) (words_along g m ts)) o ≢ None) (sym on.is)
    rest)

pub walks_up_to : (steps count : ℕ) (depth : ℕ → ℕ) (g : Graph) → AreKept steps count depth g →
    (threads : List ℕ) → length threads ≤ steps → IsWalk count g threads
walks_up_to steps count depth g h threads few all =
    walk steps count depth g h threads 0 h.begins (omega (arith, few, h.first)) all

-- what holds at each place below one holds at that place too
pub up_to : {A : Type 0} (Q : ℕ → A → Type 0) (xs : List A) (i : ℕ) (x : A) → slice_get xs i ≡ Some x → Q i x →
    ((n : ℕ) (y : A) → n < i → slice_get xs n ≡ Some y → Q n y) →
    (n : ℕ) (y : A) → n < i + 1 → slice_get xs n ≡ Some y → Q n y
up_to Q xs i x at here before n y lt e =
    below_more (λ k. (z : _) → slice_get xs k ≡ Some z → Q k z) i (λ k h z f. before k z h f)
    (λ z f. let same : x ≡ z = cc in subst (Q i) same here) n lt y e

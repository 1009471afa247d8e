-- Steps that lead to no state that is kept.
use Rattle.std.proofs.Common.{◌≡◌, ◌≢◌, ℕ, ◌+◌, ◌<◌, List, [], ◌∷◌, length, refl, sym, ap, ◌∙◌, subst}
use Rattle.std.proofs.Common.{Option, None, Some, below_more}
use Rattle.std.specs.Prelude.{All, Bool, true, false, not, is_some, option_map, slice_get}
use Rattle.std.specs.Option.{option_and_then}
use Rattle.std.proofs.lemmas.List.Elements.{All-head, All-tail}
use Rattle.ls_transitions.proofs.Keeping.{there}
use Rattle.ls_choices.specs.Rows.{Graph, Row}
use Rattle.ls_choices.specs.Walks.{row_at, words_along}
use Rattle.ls_choices.specs.Reaching.{IsClosed, IsCutOff, IsWalk, LeavesOut, target_in}
use Rattle.ls_choices.proofs.Walking.{mapped}

past_end : {A : Type 0} (xs : List A) → slice_get xs (length xs) ≡ None
past_end [] = refl
past_end (x ∷ xs) = past_end xs

-- a thread that has no row
pub cut_where_short : (count : ℕ) (rows : List Row) → length rows < count → IsCutOff count rows
cut_where_short count rows short = record {
  thread = length rows;
  within = short;
  nowhere = ap (λ (o : Option Row). option_and_then (λ row. row.to) o) (past_end rows);
}

target_at : (rows : List Row) (thread : ℕ) (row : Row) → slice_get rows thread ≡ Some row →
    target_in rows thread ≡ row.to
target_at rows thread row at = ap (λ (o : Option Row). option_and_then (λ r. r.to) o) at

pub leads_nowhere : (rows : List Row) (thread : ℕ) (row : Row) → slice_get rows thread ≡ Some row → row.to ≡ None →
    target_in rows thread ≡ None
leads_nowhere rows thread row at none = target_at rows thread row at ∙ none

pub not_both : {b : Bool} → b ≡ true → b ≡ false → ⊥
not_both e f = cc

pub is_there : {A : Type 0} (o : Option A) (b : Bool) → is_some o ≡ not b → b ≡ false → o ≢ None
is_there None b e f none = cc
is_there (Some x) b e f none = cc

-- one thread more leads to a state
pub lead_more : (rows : List Row) (i : ℕ) (row : Row) → slice_get rows i ≡ Some row → row.to ≢ None →
    ((t : ℕ) → t < i → target_in rows t ≢ None) → (t : ℕ) → t < i + 1 → target_in rows t ≢ None
lead_more rows i row at some before t lt =
    below_more (λ k. target_in rows k ≢ None) i before (λ e. some (sym (target_at rows i row at) ∙ e)) t lt

pub none_cut : (count : ℕ) (rows : List Row) → ((t : ℕ) → t < count → target_in rows t ≢ None) → ¬ IsCutOff count rows
none_cut count rows h c = h c.thread c.within c.nowhere

pub none_left_out : (count : ℕ) (g : Graph) →
    ((n : ℕ) (rows : List Row) → slice_get g.rows n ≡ Some rows → ¬ IsCutOff count rows) → ¬ LeavesOut count g
none_left_out count g h c = h c.number c.rows c.found c.cut

-- ---- where no step is left out

-- the row of a thread and the state to which it leads
record LeadsOn (rows : List Row) (thread : ℕ) : Type 0 where
  row : Row
  at : slice_get rows thread ≡ Some row
  to : ℕ
  is : row.to ≡ Some to

leads_on : (rows : List Row) (thread : ℕ) → target_in rows thread ≢ None → LeadsOn rows thread
leads_on rows thread h = by_row (slice_get rows thread) refl h
  where
    by_to : (row : Row) (o : Option ℕ) → slice_get rows thread ≡ Some row → row.to ≡ o → o ≢ None → LeadsOn rows thread
    by_to row None at is some = absurd (some refl)
    by_to row (Some to) at is some = record { row = row; at = at; to = to; is = is }

    by_row : (o : Option Row) → slice_get rows thread ≡ o → option_and_then (λ r. r.to) o ≢ None → LeadsOn rows thread
    by_row None at some = absurd (some refl)
    by_row (Some row) at some = by_to row row.to at refl some

walk_on : (count : ℕ) (g : Graph) → IsClosed g → ¬ LeavesOut count g → (ts : List ℕ) (number : ℕ) →
    number < length g.rows → All (λ t. t < count) ts → words_along g number ts ≢ None
walk_on count g closed whole [] number within few = λ e. cc
walk_on count g closed whole (t ∷ ts) number within few =
    let rows = there g.rows number within in
    let on = leads_on rows.0 t (λ none. whole (record {
      number = number;
      rows = rows.0;
      found = rows.1;
      cut = record { thread = t; within = All-head (λ x. x < count) t ts few; nowhere = none };
    })) in
    let at : row_at g number t ≡ Some on.row =
    ap (λ (o : Option (List Row)). option_and_then (λ l. slice_get l t) o) rows.1 ∙ on.at in
    let far = closed.within number t on.to rows.0 rows.1 (target_at rows.0 t on.row on.at ∙ on.is) in
    let rest = mapped on.row (words_along g on.to ts) (walk_on count g closed whole ts on.to far
    (All-tail (λ x. x < count) t ts few)) in
    subst (λ o. option_and_then (λ w. option_and_then (λ m. option_map (λ l. w.words ∷ l) (words_along g m ts)) w.to) o
    ≢ None) (sym at)
    (subst (λ o. option_and_then (λ m. option_map (λ l. on.row.words ∷ l) (words_along g m ts)) o ≢ None) (sym on.is)
    rest)

pub all_are_walks : (count : ℕ) (g : Graph) → IsClosed g → ¬ LeavesOut count g → (threads : List ℕ) →
    IsWalk count g threads
all_are_walks count g closed whole threads few = walk_on count g closed whole threads 0 closed.begins few

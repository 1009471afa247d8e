-- One row more, and the merge of merges.
use Rattle.std.proofs.Common.{◌≡◌, ◌∙◌, ◌+◌, ◌<◌, ℕ, List, ◌∷◌, ◌++◌, length, drop, get_or, map, sym, ap, arith}
use Rattle.std.proofs.lemmas.List.{drop_more}
use Rattle.std.proofs.lemmas.List.Sorted.{IsPermutation-trans}
use Rattle.ls_report.specs.Events.{Text}
use Rattle.ls_tallies.specs.Tallies.{added, gathered, gathered_onto, IsMerge, Row, total_of}
use Rattle.ls_tallies.specs.Plain.{plain_row}
use Rattle.ls_tallies.specs.declared.row.Row.{Row as CodeRow}
use Rattle.ls_tallies.proofs.Places.{total_added}
use Rattle.ls_tallies.specs.Laws.{MergesMerge}
use Rattle.ls_tallies.proofs.Told.{both, once_gathered, same_rows, told, told_append, told_gathered, told_moved}

-- of a merge the same is told as of the rows
pub told_merge : (h : Text) (rows merge : List Row) → IsMerge rows merge → told h merge ≡ told h rows
told_merge h rows merge m = told_moved (gathered rows) merge (once_gathered rows) m.gathers h ∙ told_gathered h rows

pub merges_merge : MergesMerge
merges_merge rows more left right all l r m =
    let same : (h : Text) → told h (gathered (rows ++ more)) ≡ told h (gathered (left ++ right)) = λ h.
    told_gathered h (rows ++ more) ∙ told_append h rows more ∙
    ap (λ o. both o (told h more)) (sym (told_merge h rows left l))
    ∙ ap (both (told h left)) (sym (told_merge h more right r)) ∙ sym (told_append h left right) ∙
    sym (told_gathered h (left ++ right)) in
    record {
      gathers = IsPermutation-trans (gathered (rows ++ more)) (gathered (left ++ right)) all
          (same_rows (gathered (rows ++ more)) (gathered (left ++ right)) (once_gathered (rows ++ more))
          (once_gathered (left ++ right)) same) m.gathers;
      order = m.order;
    }

-- ---- one row more

module _ (rows : List CodeRow) (i : ℕ) (r : CodeRow) (lt : i < length rows) (read : r ≡ get_or rows i r) where
  pub next_row : map plain_row (drop i rows) ≡ plain_row r ∷ map plain_row (drop (i + 1) rows)
  next_row = ap (map plain_row) (drop_more rows i r lt) ∙ ap (λ x. plain_row x ∷ map plain_row (drop (i + 1) rows))
      (sym read)

  pub gathered_more : (all all' whole : List Row) →
      all' ≡ added all (plain_row r) →
      gathered_onto all (map plain_row (drop i rows)) ≡ whole
      → gathered_onto all' (map plain_row (drop (i + 1) rows)) ≡ whole
  gathered_more all all' whole more h =
      ap (λ l. gathered_onto l (map plain_row (drop (i + 1) rows))) more ∙ ap (gathered_onto all) (sym next_row) ∙ h

  pub total_more : (all all' : List Row) (whole : ℕ) →
      all' ≡ added all (plain_row r) →
      total_of all + total_of (map plain_row (drop i rows)) ≡ whole
      → total_of all' + total_of (map plain_row (drop (i + 1) rows)) ≡ whole
  total_more all all' whole more h =
      let sum = ap total_of more ∙ total_added all (plain_row r) in
      let split = ap total_of next_row in
      omega (arith, sum, split, h)

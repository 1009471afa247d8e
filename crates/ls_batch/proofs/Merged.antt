-- The merge of two tallies is the tally of both.
use Rattle.std.proofs.Common.{◌≡◌, ◌∙◌, ◌+◌, ◌<◌, ℕ, false, List, [], ◌∷◌, ◌++◌, length, get_or, map, Greater, refl}
use Rattle.std.proofs.Common.{sym, ap, arith}
use Rattle.std.specs.Prelude.{IsSorted}
use Rattle.std.specs.Cmp.{nat_cmp_is}
use Rattle.std.specs.Cmp.Lexicographic.{slice_cmp}
use Rattle.std.specs.Ordering.{is_lt, nat_cmp, ordering_then}
use Rattle.std.proofs.lemmas.List.{map-append}
use Rattle.std.proofs.lemmas.Option.{slice_get-get_or}
use Rattle.ls_checked.specs.CheckedProgram.{Program}
use Rattle.ls_report.specs.Events.{Text}
use Rattle.ls_batch.specs.Printing.{entry_text}
use Rattle.ls_batch.specs.Tallies as counted
use Rattle.ls_batch.specs.Tallies.{History, IsTally}
use Rattle.ls_tallies.specs.Tallies.{gathered, Row, row_cmp}
use Rattle.ls_tallies.proofs.Told.{both, once_gathered, same_rows, told, told_append, told_gathered}
use Rattle.ls_batch.specs.Merging.{AreToldApart, TalliesAreRows, TalliesMerge, text_row}
use Rattle.ls_batch.proofs.Rows.{get_after, get_before, got_map}
use Rattle.ls_batch.proofs.Seeds.{once_told, seed_rows, seed_rows_append, told_by_seeds}

-- a tally's text is that of its rows of texts
pub tallies_are_rows : TalliesAreRows
tallies_are_rows p [] = refl
tallies_are_rows p (r ∷ rows) = ap (λ t. entry_text p r ++ t) (tallies_are_rows p rows)

-- rows whose seeds rise are in order
not_before : (r s : Row) → r.seed < s.seed → is_lt (row_cmp s r) ≡ false
not_before r s lt =
    ap (λ o. is_lt (ordering_then o (ordering_then (slice_cmp nat_cmp s.history r.history) (nat_cmp s.count r.count))))
    (sym (nat_cmp_is s.seed r.seed Greater lt))

in_order : (p : Program) (hs : List History) (first : ℕ) (tally : List counted.Row)
    → IsTally hs first tally
    → IsSorted row_cmp (map (text_row p) tally)
in_order p hs first tally is k d low within =
    let rows = map (text_row p) tally in
    let x = got_map (text_row p) tally k (get_or rows k d) (slice_get-get_or rows k d (omega arith)) in
    let y = got_map (text_row p) tally (k + 1) (get_or rows (k + 1) d) (slice_get-get_or rows (k + 1) d within) in
    let rising : x.0.seed < y.0.seed = is.rising k (k + 1) x.0 y.0 (omega arith) x.1 y.1 in
    let before = ap (λ (z : Row). z.seed) x.2 in
    let after = ap (λ (z : Row). z.seed) y.2 in
    not_before (get_or rows k d) (get_or rows (k + 1) d) (omega (arith, rising, before, after))

apart_before : (p : Program) (hs ms : List History) → AreToldApart p (hs ++ ms) → AreToldApart p hs
apart_before p hs ms apart i j g h e f = apart i j g h (get_before hs ms i g e) (get_before hs ms j h f)

apart_after : (p : Program) (hs ms : List History) → AreToldApart p (hs ++ ms) → AreToldApart p ms
apart_after p hs ms apart i j g h e f = apart (length hs + i) (length hs + j) g h (get_after hs ms i g e)
    (get_after hs ms j h f)

-- the law of two lists of histories
pub tallies_merge : TalliesMerge
tallies_merge p hs ms first left right all apart l r a = record {
  gathers = same_rows (gathered (map (text_row p) (left ++ right))) (map (text_row p) all)
      (once_gathered (map (text_row p) (left ++ right))) (once_told p (hs ++ ms) first all apart a) same;
  order = in_order p (hs ++ ms) first all a;
}
  where
    same : (t : Text) → told t (gathered (map (text_row p) (left ++ right))) ≡ told t (map (text_row p) all)
    same t =
        let end = first + length hs in
        told_gathered t (map (text_row p) (left ++ right)) ∙ ap (told t) (map-append (text_row p) left right)
        ∙ told_append t (map (text_row p) left) (map (text_row p) right)
        ∙ ap (λ o. both o (told t (map (text_row p) right)))
        (told_by_seeds p hs first left (apart_before p hs ms apart) l t)
        ∙ ap (both (told t (seed_rows p first hs))) (told_by_seeds p ms end right (apart_after p hs ms apart) r t)
        ∙ sym (told_append t (seed_rows p first hs) (seed_rows p end ms)) ∙
        ap (told t) (sym (seed_rows_append p first hs ms))
        ∙ sym (told_by_seeds p (hs ++ ms) first all apart a t)

-- The tallies of ranges of seeds merge.
use Rattle.std.proofs.Common.{◌≡◌, ◌∙◌, ◌+◌, ◌<◌, ◌≤◌, ◌^◌, ℕ, zero, suc, List, [], ◌∷◌, ◌++◌, length, map, Some, refl}
use Rattle.std.proofs.Common.{sym, ap, subst, arith}
use Rattle.std.specs.Prelude.{slice_get}
use Rattle.std.specs.List.{range_with_len}
use Rattle.std.proofs.lemmas.List.{length-append}
use Rattle.std.proofs.lemmas.List.FromFn.{length-map-range_with_len}
use Rattle.ls_checked.specs.CheckedProgram.{Program, ThreadProgram}
use Rattle.ls_preservation.specs.Same.{IsCells}
use Rattle.ls_image.specs.declared.image.Image.{Image}
use Rattle.ls_image.specs.Images.{Compiles, code_of_image}
use Rattle.ls_report.specs.Events.{Text}
use Rattle.ls_report.specs.Printing.{run_text}
use Rattle.ls_report.proofs.CutLemmas.{none_is, some_is}
use Rattle.ls_batch.specs.Printing.{entry_text, head_text, tally_text}
use Rattle.ls_batch.specs.Samples.{histories_of, history_of, seed_schedule}
use Rattle.ls_batch.specs.declared.samples.Sampler.{Sampler}
use Rattle.ls_batch.proofs.Replayed.{seeds_replay}
use Rattle.ls_batch.specs.Tallies as counted
use Rattle.ls_batch.specs.Tallies.{History, IsTally}
use Rattle.ls_tallies.specs.Printing.{rows_text}
use Rattle.ls_tallies.specs.Tallies.{Row}
use Rattle.ls_text_laws.specs.Histories.{IsReadable}
use Rattle.ls_text_laws.proofs.Names.{program_names}
use Rattle.ls_text_laws.proofs.Whole.{compiled_is_readable}
use Rattle.ls_batch.specs.Merging.{AreToldApart, text_row}
use Rattle.ls_batch.specs.Batches.{BatchesMerge, MergesPrintTheTally, program_in, TextsTellApart}
use Rattle.ls_batch.proofs.Alone.{only_merge, Rising}
use Rattle.ls_batch.proofs.Apart.{told_apart}
use Rattle.ls_batch.proofs.Merged.{tallies_are_rows, tallies_merge}
use Rattle.ls_batch.proofs.Rows.{got_map}

-- ---- ranges

-- the values at the n numbers from s on
each : {X : Type 0} → (ℕ → X) → ℕ → ℕ → List X
each f s zero = []
each f s (suc n) = f s ∷ each f (s + 1) n

each_is : {X : Type 0} (f : ℕ → X) (first a n : ℕ)
    → map (λ i. f (first + i)) (range_with_len a n) ≡ each f (first + a) n
unfolding each
each_is f first a zero = refl
each_is f first a (suc n) =
    let same : first + (a + 1) ≡ (first + a) + 1 = omega arith in
    ap (λ l. f (first + a) ∷ l) (each_is f first (a + 1) n ∙ ap (λ s. each f s n) same)

each_append : {X : Type 0} (f : ℕ → X) (s n m : ℕ) → each f s (n + m) ≡ each f s n ++ each f (s + n) m
unfolding each
each_append f s zero m =
    let none : 0 + m ≡ m = omega arith in
    let same : s ≡ s + 0 = omega arith in
    ap (each f s) none ∙ ap (λ t. each f t m) same
each_append f s (suc n) m =
    let more : suc n + m ≡ suc (n + m) = omega arith in
    let same : (s + 1) + n ≡ s + suc n = omega arith in
    ap (each f s) more ∙ ap (λ l. f s ∷ l) (each_append f (s + 1) n m ∙ ap (λ t. each f (s + 1) n ++ each f t m) same)

ranges : {X : Type 0} (f : ℕ → X) (first n m : ℕ)
    → map (λ i. f (first + i)) (range_with_len 0 (n + m)) ≡ map (λ i. f (first + i)) (range_with_len 0 n) ++
    map (λ i. f ((first + n) + i)) (range_with_len 0 m)
ranges f first n m =
    let start : first + 0 ≡ first = omega arith in
    let next : (first + n) + 0 ≡ first + n = omega arith in
    let left : map (λ i. f (first + i)) (range_with_len 0 n) ≡ each f first n = each_is f first 0 n ∙
    ap (λ s. each f s n) start in
    let right : map (λ i. f ((first + n) + i)) (range_with_len 0 m) ≡ each f (first + n) m = each_is f (first + n) 0 m ∙
    ap (λ s. each f s m) next in
    each_is f first 0 (n + m) ∙ ap (λ s. each f s (n + m)) start ∙ each_append f first n m ∙
    (λ i. sym left i ++ sym right i)

-- ---- a history's text stands in the tally's

text_within : (p : Program) (rows : List counted.Row) (k : ℕ) (r : counted.Row)
    → slice_get rows k ≡ Some r
    → length (run_text p r.history) ≤ length (tally_text p rows)
text_within p [] k r e = absurd (none_is e)
text_within p (x ∷ rows) zero r e =
    let one = length-append (entry_text p x) (tally_text p rows) in
    let two = length-append (head_text x) (run_text p x.history ++ 10 ∷ []) in
    let three = length-append (run_text p x.history) (10 ∷ []) in
    let first : length (run_text p x.history) ≤ length (tally_text p (x ∷ rows)) = omega (arith, one, two, three) in
    subst (λ (y : counted.Row). length (run_text p y.history) ≤ length (tally_text p (x ∷ rows))) (some_is e) first
text_within p (x ∷ rows) (suc k) r e =
    let rest = text_within p rows k r e in
    let one = length-append (entry_text p x) (tally_text p rows) in
    omega (arith, rest, one)

-- ---- runs of compiled texts

module _ (classes text : Text) (image : Image) (h : Compiles classes text image) (cells : ℕ)
    (within : IsCells (code_of_image image) cells) where
  once_named : (i j : ℕ) (t u : ThreadProgram)
      → slice_get (program_in image).threads i ≡ Some t
      → slice_get (program_in image).threads j ≡ Some u
      → t.name ≡ u.name
      → i ≡ j
  once_named = (program_names _ text (program_in image) h.reads).once

  seed_readable : (seed : ℕ) (d : Sampler)
      → IsReadable (program_in image) (history_of (code_of_image image) cells seed d)
  seed_readable seed d =
      subst (IsReadable (program_in image)) (sym (seeds_replay (code_of_image image) cells seed d).history)
      (compiled_is_readable classes text image h cells within (seed_schedule (code_of_image image) cells seed d))

  each_readable : (first n : ℕ) (d : Sampler) (k : ℕ) (g : History)
      → slice_get (histories_of (code_of_image image) cells first n d) k ≡ Some g
      → IsReadable (program_in image) g
  each_readable first n d k g e =
      let i = got_map (λ i. history_of (code_of_image image) cells (first + i) d) (range_with_len 0 n) k g e in
      subst (IsReadable (program_in image)) i.2 (seed_readable (first + i.0) d)

  seeds_apart : (first n : ℕ) (d : Sampler) (all : List counted.Row)
      → IsTally (histories_of (code_of_image image) cells first n d) first all
      → length (tally_text (program_in image) all) < 2 ^ 64
      → AreToldApart (program_in image) (histories_of (code_of_image image) cells first n d)
  seeds_apart first n d all is fits i j g f eg ef same =
      let has = is.every i g eg in
      let long = text_within (program_in image) all has.at has.row has.there in
      let its : length (run_text (program_in image) has.row.history) ≡ length (run_text (program_in image) g) = ap
      (λ l. length (run_text (program_in image) l)) has.same in
      told_apart (program_in image) once_named g f (each_readable first n d i g eg) (each_readable first n d j f ef)
      (omega (arith, long, its, fits)) same

-- the law of histories of runs
pub texts_tell_apart : TextsTellApart
texts_tell_apart classes text image h cells within one other fits same =
    told_apart (program_in image) (once_named classes text image h cells within) _ _
    (compiled_is_readable classes text image h cells within one)
    (compiled_is_readable classes text image h cells within other) fits same

-- the law of two ranges of seeds
pub batches_merge : BatchesMerge
batches_merge classes text image h cells first n m d left right all are =
    let p = program_in image in
    let code = code_of_image image in
    let hs = histories_of code cells first n d in
    let ms = histories_of code cells (first + n) m d in
    let parts : histories_of code cells first (n + m) d ≡ hs ++
    ms = ranges (λ seed. history_of code cells seed d) first n m in
    let count : length hs ≡ n = length-map-range_with_len (λ i. history_of code cells (first + i) d) 0 n in
    tallies_merge p hs ms first left right all
    (subst (AreToldApart p) parts (seeds_apart classes text image h cells are.cells_fit first (n + m) d all are.all_is
    are.text_fits)) are.left_is
    (subst (λ k. IsTally ms (first + k) right) (sym count) are.right_is)
    (subst (λ l. IsTally l first all) parts are.all_is)

-- the rows of a tally rise
rising : (p : Program) (hs : List History) (first : ℕ) (tally : List counted.Row)
    → IsTally hs first tally
    → Rising (map (text_row p) tally)
rising p hs first tally is j k r s lt er es =
    let x = got_map (text_row p) tally j r er in
    let y = got_map (text_row p) tally k s es in
    let rises : x.0.seed < y.0.seed = is.rising j k x.0 y.0 lt x.1 y.1 in
    let before = ap (λ (z : Row). z.seed) x.2 in
    let after = ap (λ (z : Row). z.seed) y.2 in
    omega (arith, rises, before, after)

-- the law of their texts
pub merges_print_the_tally : MergesPrintTheTally
merges_print_the_tally classes text image h cells first n m d left right all are merge is =
    let p = program_in image in
    let code = code_of_image image in
    let whole = batches_merge classes text image h cells first n m d left right all are in
    ap rows_text (only_merge (map (text_row p) (left ++ right)) merge (map (text_row p) all) is whole
    (rising p (histories_of code cells first (n + m) d) first all are.all_is))
    ∙ sym (tallies_are_rows p all)

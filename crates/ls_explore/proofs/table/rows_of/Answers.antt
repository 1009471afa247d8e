-- Why `rows_of` in src/table.rt keeps its contract and what `choose` and `chosen_rows` require.

use Rattle.std.proofs.Common.{◌≡◌, ◌<◌, ◌∙◌, ℕ, List, length, sym, ap, arith, subst}
use Rattle.std.specs.Prelude.{slice_get}
use Rattle.ls_code.specs.Machine.{Machine}
use Rattle.ls_history_numbers.specs.Choices.{IsChosen}
use Rattle.ls_history_numbers.proofs.Lists.{below}
use Rattle.ls_explore.specs.Listed.{IsRowOf}
use Rattle.ls_explore.specs.Searches.{AreSaved, paths_of}
use Rattle.ls_explore.specs.Walks.{root_of}
use Rattle.ls_explore.specs.declared.searching.Seen.{Seen}
use Rattle.ls_explore.proofs.Choosing.{ok_holds}
use Rattle.ls_explore.proofs.Listing.{Numbered, numbered_by, numbers_there, one_number, tell_listed}
use Rattle.ls_explore.proofs.Loops.{root_same}
use Rattle.ls_explore.proofs.Paths.{length-paths}
use Rattle.ls_explore.proofs.table.rows_of.Goals as goal

pub choose-requires-clause-few : goal.choose-requires-clause-few
choose-requires-clause-few c =
    omega (
      arith,
      ap length c.as_slice-4.ensures.value,
      c.in_ok-ends.ensures.many,
      ap length c.as_slice.ensures.value,
      c.requires.few,
      ap length c.as_slice-3.ensures.value,
      c.in_ok-numbers.ensures.many,
    )

pub choose-requires-clause-there : goal.choose-requires-clause-there
choose-requires-clause-there c =
    let most : ℕ = c.args.ground.now.most in
    let root : Machine = root_of c.args.walker.now c.args.ground.now.setup.now in
    let paths : List (List ℕ) = paths_of c.args.found.now.paths.items in
    let seen : List Seen = c.args.found.now.seen.items in
    let count : length paths ≡ length c.args.found.now.paths.items = length-paths c.args.found.now.paths.items in
    let told : Numbered most root paths seen c.as_slice-2.result.now c.as_slice-3.result.now c.as_slice-4.result.now =
    numbered_by most root paths seen c.as_slice.result.now c.number_paths.new.all.items c.in_ok-numbers.numbers.items
    c.in_ok-ends.ends.items c.as_slice-2.result.now c.as_slice-3.result.now c.as_slice-4.result.now
    c.as_slice-2.ensures.value c.as_slice-3.ensures.value c.as_slice-4.ensures.value c.as_slice.ensures.value
    c.in_ok-numbers.ensures.numbered (c.in_ok-numbers.ensures.many ∙ sym count) c.in_ok-numbers.ensures.each
    c.in_ok-ends.ensures.many c.in_ok-ends.ensures.each in
    numbers_there most root paths seen c.as_slice-2.result.now c.as_slice-3.result.now c.as_slice-4.result.now told
    (omega (arith, c.requires.few, count))

pub chosen_rows-requires-clause-saves : goal.chosen_rows-requires-clause-saves
chosen_rows-requires-clause-saves c =
    let same = root_same c.args.walker.now c.number_paths.new.walker c.args.ground.now.setup.now
    c.number_paths.ensures.code c.number_paths.ensures.cells in
    subst (λ r. AreSaved c.args.ground.now.most r (paths_of c.args.found.now.paths.items) c.args.found.now.saved.items)
    (sym same) c.requires.saves

pub chosen_rows-requires-clause-at : goal.chosen_rows-requires-clause-at
chosen_rows-requires-clause-at c = λ n at chosen.
    let is : IsChosen c.in_ok-choices.choices.items n at =
    ap (λ l. slice_get l n) (sym c.as_slice-5.ensures.value) ∙ chosen in
    let within : at < length c.as_slice-3.result.now =
    below c.as_slice-3.result.now at n (c.in_ok-choices.ensures.chosen n at is) in
    omega (arith, within, ap length c.as_slice-3.ensures.value, c.in_ok-numbers.ensures.many)

pub chosen_rows-requires-clause-apart : goal.chosen_rows-requires-clause-apart
chosen_rows-requires-clause-apart c = λ n at m other r s chosen other_chosen row other_row same.
    let most : ℕ = c.args.ground.now.most in
    let root : Machine = root_of c.args.walker.now c.args.ground.now.setup.now in
    let paths : List (List ℕ) = paths_of c.args.found.now.paths.items in
    let seen : List Seen = c.args.found.now.seen.items in
    let one = root_same c.args.walker.now c.number_paths.new.walker c.args.ground.now.setup.now
    c.number_paths.ensures.code c.number_paths.ensures.cells in
    let count : length paths ≡ length c.args.found.now.paths.items = length-paths c.args.found.now.paths.items in
    let told : Numbered most root paths seen c.as_slice-2.result.now c.as_slice-3.result.now c.as_slice-4.result.now =
    numbered_by most root paths seen c.as_slice.result.now c.number_paths.new.all.items c.in_ok-numbers.numbers.items
    c.in_ok-ends.ends.items c.as_slice-2.result.now c.as_slice-3.result.now c.as_slice-4.result.now
    c.as_slice-2.ensures.value c.as_slice-3.ensures.value c.as_slice-4.ensures.value c.as_slice.ensures.value
    c.in_ok-numbers.ensures.numbered (c.in_ok-numbers.ensures.many ∙ sym count) c.in_ok-numbers.ensures.each
    c.in_ok-ends.ensures.many c.in_ok-ends.ensures.each in
    one_number most root paths seen c.as_slice-2.result.now c.as_slice-3.result.now c.as_slice-4.result.now told
    (omega (arith, c.requires.few, count)) at n other m r s
    (c.in_ok-choices.ensures.chosen n at (ap (λ l. slice_get l n) (sym c.as_slice-5.ensures.value) ∙ chosen))
    (c.in_ok-choices.ensures.chosen m other (ap (λ l. slice_get l m) (sym c.as_slice-5.ensures.value) ∙ other_chosen))
    (subst (λ z. IsRowOf most z paths seen at r) one row)
    (subst (λ z. IsRowOf most z paths seen other s) one other_row) same

pub returns : goal.returns
returns c =
    let most : ℕ = c.args.ground.now.most in
    let root : Machine = root_of c.args.walker.now c.args.ground.now.setup.now in
    let paths : List (List ℕ) = paths_of c.args.found.now.paths.items in
    let seen : List Seen = c.args.found.now.seen.items in
    let one = root_same c.args.walker.now c.number_paths.new.walker c.args.ground.now.setup.now
    c.number_paths.ensures.code c.number_paths.ensures.cells in
    let count : length paths ≡ length c.args.found.now.paths.items = length-paths c.args.found.now.paths.items in
    let told : Numbered most root paths seen c.as_slice-2.result.now c.as_slice-3.result.now c.as_slice-4.result.now =
    numbered_by most root paths seen c.as_slice.result.now c.number_paths.new.all.items c.in_ok-numbers.numbers.items
    c.in_ok-ends.ends.items c.as_slice-2.result.now c.as_slice-3.result.now c.as_slice-4.result.now
    c.as_slice-2.ensures.value c.as_slice-3.ensures.value c.as_slice-4.ensures.value c.as_slice.ensures.value
    c.in_ok-numbers.ensures.numbered (c.in_ok-numbers.ensures.many ∙ sym count) c.in_ok-numbers.ensures.each
    c.in_ok-ends.ensures.many c.in_ok-ends.ensures.each in
    ok_holds c.chosen_rows.result c.chosen_rows.ensures.own c.chosen_rows.ensures.made c.chosen_rows.ensures.apart
    (λ rows own made apart.
    tell_listed most root paths seen c.as_slice-2.result.now c.as_slice-3.result.now c.as_slice-4.result.now told
    (omega (arith, c.requires.few, count)) c.in_ok-choices.choices.items c.in_ok-choices.ensures.chosen
    c.in_ok-choices.ensures.ends c.in_ok-choices.ensures.covers c.in_ok-choices.ensures.alone rows.items
    (λ r there. let o = own r there in (
      o.0,
      o.1,
      ap (λ l. slice_get l o.0) (sym c.as_slice-5.ensures.value) ∙ o.2,
      subst (λ z. IsRowOf most z paths seen o.1 r) one o.3,
    ))
    (λ n at chosen. let m = made n at (ap (λ l. slice_get l n) c.as_slice-5.ensures.value ∙ chosen) in
    (m.0, m.1, subst (λ z. IsRowOf most z paths seen at m.0) one m.2)) apart)

-- Why `rows_of` in src/telling.rt keeps its contract and what `choose` and `chosen_rows` require.

use Rattle.std.proofs.Common.{◌≡◌, ◌<◌, ◌∙◌, List, length, map, sym, ap, arith}
use Rattle.std.specs.Prelude.{slice_get}
use Rattle.std.proofs.lemmas.List.{length-map}
use Rattle.ls_events.specs.declared.event.Event.{Event}
use Rattle.ls_history_numbers.specs.Choices.{IsChosen}
use Rattle.ls_history_numbers.proofs.Lists.{below}
use Rattle.ls_search.specs.declared.places.Node.{Node}
use Rattle.ls_search.specs.declared.places.Seen.{Seen}
use Rattle.ls_source_rows.proofs.Listing.{Numbered, number_there, numbered_by, one_number, tell_listed}
use Rattle.ls_source_rows.proofs.Choosing.{ok_holds}
use Rattle.ls_source_rows.proofs.telling.rows_of.Goals as goal

pub choose-requires-clause-there : goal.choose-requires-clause-there
choose-requires-clause-there c =
    let values : List (List Event) = map (λ v. v.items) c.args.found.now.histories.now in
    let nodes : List Node = c.args.found.now.nodes.now in
    let seen : List Seen = c.args.found.now.seen.now in
    let longer : length (map (λ v. v.items) c.args.found.now.histories.now) ≡ length c.args.found.now.histories.now =
    length-map c.args.found.now.histories.now (λ v. v.items) in
    let told : Numbered (map (λ v. v.items) c.args.found.now.histories.now) nodes seen c.deref-2.result.now
    c.in_ok-numbers.numbers.items c.deref-3.result.now c.deref-4.result.now =
    numbered_by values nodes seen c.number_all.new.all.items c.in_ok-numbers.numbers.items c.in_ok-each.each.items
    c.in_ok-ends.ends.items c.deref.result.now c.deref-2.result.now c.deref-3.result.now c.deref-4.result.now
    c.deref.ensures.value c.deref-2.ensures.value c.deref-3.ensures.value c.deref-4.ensures.value
    c.in_ok-numbers.ensures.numbered (c.in_ok-numbers.ensures.many ∙ sym longer) c.in_ok-numbers.ensures.each
    c.in_ok-each.ensures.many c.in_ok-each.ensures.each
    (λ at n here. let t = c.requires.there at n here in omega (arith, t, longer)) c.in_ok-ends.ensures.many
    c.in_ok-ends.ensures.each in
    number_there values nodes seen c.deref-2.result.now c.in_ok-numbers.numbers.items c.deref-3.result.now
    c.deref-4.result.now told

pub chosen_rows-requires-clause-at : goal.chosen_rows-requires-clause-at
chosen_rows-requires-clause-at c = λ n at chosen.
    let is : IsChosen c.in_ok-choices.choices.items n at =
    ap (λ l. slice_get l n) (sym c.deref-5.ensures.value) ∙ chosen in
    let within : at < length c.deref-3.result.now =
    below c.deref-3.result.now at n (c.in_ok-choices.ensures.chosen n at is) in
    let many : length c.deref-3.result.now ≡ length c.args.found.now.nodes.now =
    ap length c.deref-3.ensures.value ∙ c.in_ok-each.ensures.many in
    omega (arith, within, many)

pub chosen_rows-requires-clause-apart : goal.chosen_rows-requires-clause-apart
chosen_rows-requires-clause-apart c = λ n at m other r s chosen other_chosen row other_row same.
    let values : List (List Event) = map (λ v. v.items) c.args.found.now.histories.now in
    let nodes : List Node = c.args.found.now.nodes.now in
    let seen : List Seen = c.args.found.now.seen.now in
    let longer : length (map (λ v. v.items) c.args.found.now.histories.now) ≡ length c.args.found.now.histories.now =
    length-map c.args.found.now.histories.now (λ v. v.items) in
    let told : Numbered (map (λ v. v.items) c.args.found.now.histories.now) nodes seen c.deref-2.result.now
    c.in_ok-numbers.numbers.items c.deref-3.result.now c.deref-4.result.now =
    numbered_by values nodes seen c.number_all.new.all.items c.in_ok-numbers.numbers.items c.in_ok-each.each.items
    c.in_ok-ends.ends.items c.deref.result.now c.deref-2.result.now c.deref-3.result.now c.deref-4.result.now
    c.deref.ensures.value c.deref-2.ensures.value c.deref-3.ensures.value c.deref-4.ensures.value
    c.in_ok-numbers.ensures.numbered (c.in_ok-numbers.ensures.many ∙ sym longer) c.in_ok-numbers.ensures.each
    c.in_ok-each.ensures.many c.in_ok-each.ensures.each
    (λ at n here. let t = c.requires.there at n here in omega (arith, t, longer)) c.in_ok-ends.ensures.many
    c.in_ok-ends.ensures.each in
    one_number values nodes seen c.deref-2.result.now c.in_ok-numbers.numbers.items c.deref-3.result.now
    c.deref-4.result.now told at n other m r s
    (c.in_ok-choices.ensures.chosen n at (ap (λ l. slice_get l n) (sym c.deref-5.ensures.value) ∙ chosen))
    (c.in_ok-choices.ensures.chosen m other (ap (λ l. slice_get l m) (sym c.deref-5.ensures.value) ∙ other_chosen))
    row other_row same

pub returns : goal.returns
returns c =
    let values : List (List Event) = map (λ v. v.items) c.args.found.now.histories.now in
    let nodes : List Node = c.args.found.now.nodes.now in
    let seen : List Seen = c.args.found.now.seen.now in
    let longer : length (map (λ v. v.items) c.args.found.now.histories.now) ≡ length c.args.found.now.histories.now =
    length-map c.args.found.now.histories.now (λ v. v.items) in
    let told : Numbered (map (λ v. v.items) c.args.found.now.histories.now) nodes seen c.deref-2.result.now
    c.in_ok-numbers.numbers.items c.deref-3.result.now c.deref-4.result.now =
    numbered_by values nodes seen c.number_all.new.all.items c.in_ok-numbers.numbers.items c.in_ok-each.each.items
    c.in_ok-ends.ends.items c.deref.result.now c.deref-2.result.now c.deref-3.result.now c.deref-4.result.now
    c.deref.ensures.value c.deref-2.ensures.value c.deref-3.ensures.value c.deref-4.ensures.value
    c.in_ok-numbers.ensures.numbered (c.in_ok-numbers.ensures.many ∙ sym longer) c.in_ok-numbers.ensures.each
    c.in_ok-each.ensures.many c.in_ok-each.ensures.each
    (λ at n here. let t = c.requires.there at n here in omega (arith, t, longer)) c.in_ok-ends.ensures.many
    c.in_ok-ends.ensures.each in
    ok_holds c.chosen_rows.result c.chosen_rows.ensures.own c.chosen_rows.ensures.made c.chosen_rows.ensures.apart
    (λ rows own made apart.
    tell_listed values nodes seen c.deref-2.result.now c.in_ok-numbers.numbers.items c.deref-3.result.now
    c.deref-4.result.now told c.in_ok-choices.choices.items c.in_ok-choices.ensures.chosen c.in_ok-choices.ensures.ends
    c.in_ok-choices.ensures.covers c.in_ok-choices.ensures.alone rows.items
    (λ r there. let o = own r there in
    (o.0, o.1, ap (λ l. slice_get l o.0) (sym c.deref-5.ensures.value) ∙ o.2, o.3))
    (λ n at chosen. made n at (ap (λ l. slice_get l n) c.deref-5.ensures.value ∙ chosen)) apart)

-- Why `tell_rows` in src/telling.rt keeps its contract and what it calls with.

use Rattle.std.proofs.Common.{◌≡◌, ◌<◌, ℕ, [], List, Some, length, map, rules, sym, ap, ◌∙◌, subst, arith, Vec, Global}
use Rattle.std.specs.Prelude.{slice_get}
use Rattle.std.proofs.lemmas.List.{length-map}
use Rattle.ls_events.specs.declared.event.Event.{Event}
use Rattle.ls_checked.specs.CheckedTree.{File}
use Rattle.ls_checked.specs.CheckedProgram.{Program}
use Rattle.ls_checked.specs.Plain.{plain_file}
use Rattle.ls_checked.specs.PlainProgram.{plain_program}
use Rattle.ls_transitions.specs.Seen.{table_of}
use Rattle.ls_search.specs.declared.places.Node.{Node}
use Rattle.ls_search.specs.declared.places.Seen.{Seen}
use Rattle.ls_search_laws.specs.Histories.{one_more}
use Rattle.ls_search.specs.Nameless.{nameless_next}
use Rattle.ls_search.specs.Verdicts.{IsCut}
use Rattle.ls_search.proofs.Judging.{nameless_hides}
use Rattle.ls_source_rows.specs.Listed.{TellListed}
use Rattle.ls_source_rows.specs.Rows.{TellStates}
use Rattle.ls_source_rows.specs.declared.rows.Row.{Row}
use Rattle.ls_source_rows.proofs.Cutting.{is_cut}
use Rattle.ls_source_rows.proofs.Permuting.{listed_lent, listed_sorted}
use Rattle.ls_source_rows.proofs.Rowing.{all_told, rows_true, states_are, states_told}
use Rattle.ls_source_rows.proofs.telling.tell_rows.Goals as goal

pub list_run-requires-clause-hides : goal.list_run-requires-clause-hides
list_run-requires-clause-hides g c = nameless_hides one_more

pub rows_of-requires-clause-there : goal.rows_of-requires-clause-there
rows_of-requires-clause-there g c = λ at n here.
    let nodes : List Node = c.in_ok-setup.field-0.listing.search.found.nodes.items in
    let values : List (Vec Event Global) = c.in_ok-setup.field-0.listing.search.pool.values.items in
    let there : slice_get nodes at ≡ Some n = ap (λ l. slice_get l at) (sym c.deref-2.ensures.value) ∙ here in
    let within : n.place.noted < length (map (λ (v : Vec Event Global). Some v.items) values) =
    (c.in_ok-setup.ensures.sound.are at n there).noted_there in
    let many = length-map values (λ (v : Vec Event Global). Some v.items) in
    let lent = ap length c.deref.ensures.value in
    omega (arith, within, many, lent)

pub returns-clause-truth : goal.returns-clause-truth
returns-clause-truth g c =
    let file : File = plain_file c.args.file.now in
    let program : Program = plain_program c.args.program.now in
    let nodes : List Node = c.in_ok-setup.field-0.listing.search.found.nodes.items in
    let seen : List Seen = c.in_ok-setup.field-0.listing.search.seen.items in
    let values : List (Vec Event Global) = c.in_ok-setup.field-0.listing.search.pool.values.items in
    let rows : List Row = c.in_order-rows.result.items in
    let told : TellListed (map (λ v. v.items) c.in_ok-setup.field-0.listing.search.pool.values.items)
    c.in_ok-setup.field-0.listing.search.found.nodes.items c.in_ok-setup.field-0.listing.search.seen.items
    c.in_order-rows.result.items =
    listed_sorted (map (λ v. v.items) values) nodes seen c.in_ok-rows_of.field-0.items rows c.in_order-rows.ensures.same
    (listed_lent values c.deref.result.now nodes c.deref-2.result.now seen c.deref-3.result.now
    c.in_ok-rows_of.field-0.items c.deref.ensures.value c.deref-2.ensures.value c.deref-3.ensures.value
    c.in_ok-rows_of.ensures) in
    rows_true file program c.in_ok-setup.field-0.setup c.in_ok-setup.ensures.up
    (table_of c.in_ok-setup.field-0.listing.search.transitions) (map (λ v. Some v.items) values)
    (map (λ v. v.items) values) (states_are values) nodes c.in_ok-setup.ensures.sound c.in_ok-setup.ensures.steps
    c.in_ok-setup.ensures.root seen rows told
    c.in_ok-setup.ensures.expanded

pub returns-clause-apart : goal.returns-clause-apart
returns-clause-apart g c =
    let file : File = plain_file c.args.file.now in
    let program : Program = plain_program c.args.program.now in
    let nodes : List Node = c.in_ok-setup.field-0.listing.search.found.nodes.items in
    let seen : List Seen = c.in_ok-setup.field-0.listing.search.seen.items in
    let values : List (Vec Event Global) = c.in_ok-setup.field-0.listing.search.pool.values.items in
    let rows : List Row = c.in_order-rows.result.items in
    let told : TellListed (map (λ v. v.items) c.in_ok-setup.field-0.listing.search.pool.values.items)
    c.in_ok-setup.field-0.listing.search.found.nodes.items c.in_ok-setup.field-0.listing.search.seen.items
    c.in_order-rows.result.items =
    listed_sorted (map (λ v. v.items) values) nodes seen c.in_ok-rows_of.field-0.items rows c.in_order-rows.ensures.same
    (listed_lent values c.deref.result.now nodes c.deref-2.result.now seen c.deref-3.result.now
    c.in_ok-rows_of.field-0.items c.deref.ensures.value c.deref-2.ensures.value c.deref-3.ensures.value
    c.in_ok-rows_of.ensures) in
    told.apart

pub returns-clause-alone : goal.returns-clause-alone
returns-clause-alone g c =
    let file : File = plain_file c.args.file.now in
    let program : Program = plain_program c.args.program.now in
    let nodes : List Node = c.in_ok-setup.field-0.listing.search.found.nodes.items in
    let seen : List Seen = c.in_ok-setup.field-0.listing.search.seen.items in
    let values : List (Vec Event Global) = c.in_ok-setup.field-0.listing.search.pool.values.items in
    let rows : List Row = c.in_order-rows.result.items in
    let told : TellListed (map (λ v. v.items) c.in_ok-setup.field-0.listing.search.pool.values.items)
    c.in_ok-setup.field-0.listing.search.found.nodes.items c.in_ok-setup.field-0.listing.search.seen.items
    c.in_order-rows.result.items =
    listed_sorted (map (λ v. v.items) values) nodes seen c.in_ok-rows_of.field-0.items rows c.in_order-rows.ensures.same
    (listed_lent values c.deref.result.now nodes c.deref-2.result.now seen c.deref-3.result.now
    c.in_ok-rows_of.field-0.items c.deref.ensures.value c.deref-2.ensures.value c.deref-3.ensures.value
    c.in_ok-rows_of.ensures) in
    told.alone

pub returns-clause-states : goal.returns-clause-states
returns-clause-states g c =
    let file : File = plain_file c.args.file.now in
    let program : Program = plain_program c.args.program.now in
    let nodes : List Node = c.in_ok-setup.field-0.listing.search.found.nodes.items in
    let seen : List Seen = c.in_ok-setup.field-0.listing.search.seen.items in
    let values : List (Vec Event Global) = c.in_ok-setup.field-0.listing.search.pool.values.items in
    let rows : List Row = c.in_order-rows.result.items in
    let told : TellListed (map (λ v. v.items) c.in_ok-setup.field-0.listing.search.pool.values.items)
    c.in_ok-setup.field-0.listing.search.found.nodes.items c.in_ok-setup.field-0.listing.search.seen.items
    c.in_order-rows.result.items =
    listed_sorted (map (λ v. v.items) values) nodes seen c.in_ok-rows_of.field-0.items rows c.in_order-rows.ensures.same
    (listed_lent values c.deref.result.now nodes c.deref-2.result.now seen c.deref-3.result.now
    c.in_ok-rows_of.field-0.items c.deref.ensures.value c.deref-2.ensures.value c.deref-3.ensures.value
    c.in_ok-rows_of.ensures) in
    let count : length c.in_ok-setup.field-0.listing.search.found.nodes.items ≡ c.len.result = search rules in
    subst (TellStates file program c.in_ok-setup.field-0.setup rows) count
    (states_told file program c.in_ok-setup.field-0.setup c.in_ok-setup.ensures.up
    (table_of c.in_ok-setup.field-0.listing.search.transitions) (map (λ v. Some v.items) values)
    (map (λ v. v.items) values) (states_are values) nodes c.in_ok-setup.ensures.sound c.in_ok-setup.ensures.steps
    c.in_ok-setup.ensures.root seen rows told
    c.in_ok-setup.ensures.once)

pub returns-clause-all : goal.returns-clause-all
returns-clause-all g c = λ done.
    let file : File = plain_file c.args.file.now in
    let program : Program = plain_program c.args.program.now in
    let nodes : List Node = c.in_ok-setup.field-0.listing.search.found.nodes.items in
    let seen : List Seen = c.in_ok-setup.field-0.listing.search.seen.items in
    let values : List (Vec Event Global) = c.in_ok-setup.field-0.listing.search.pool.values.items in
    let rows : List Row = c.in_order-rows.result.items in
    let told : TellListed (map (λ v. v.items) c.in_ok-setup.field-0.listing.search.pool.values.items)
    c.in_ok-setup.field-0.listing.search.found.nodes.items c.in_ok-setup.field-0.listing.search.seen.items
    c.in_order-rows.result.items =
    listed_sorted (map (λ v. v.items) values) nodes seen c.in_ok-rows_of.field-0.items rows c.in_order-rows.ensures.same
    (listed_lent values c.deref.result.now nodes c.deref-2.result.now seen c.deref-3.result.now
    c.in_ok-rows_of.field-0.items c.deref.ensures.value c.deref-2.ensures.value c.deref-3.ensures.value
    c.in_ok-rows_of.ensures) in
    all_told file program c.in_ok-setup.field-0.setup c.in_ok-setup.ensures.up
    (table_of c.in_ok-setup.field-0.listing.search.transitions) (map (λ v. Some v.items) values)
    (map (λ v. v.items) values) (states_are values) nodes c.in_ok-setup.ensures.sound c.in_ok-setup.ensures.steps
    c.in_ok-setup.ensures.root seen rows told
    c.in_ok-setup.ensures.expanded (c.in_ok-setup.ensures.all done)

pub returns-clause-cut : goal.returns-clause-cut
returns-clause-cut g c = λ cut.
    let file : File = plain_file c.args.file.now in
    let program : Program = plain_program c.args.program.now in
    let nodes : List Node = c.in_ok-setup.field-0.listing.search.found.nodes.items in
    let values : List (Vec Event Global) = c.in_ok-setup.field-0.listing.search.pool.values.items in
    let count : length c.in_ok-setup.field-0.listing.search.found.nodes.items ≡ c.len.result = search rules in
    subst (λ (n : ℕ). IsCut file program c.args.reach.states c.in_ok-setup.field-0.setup n) count
    (is_cut (Some []) (nameless_next one_more) file program c.in_ok-setup.field-0.setup
    (table_of c.in_ok-setup.field-0.listing.search.transitions) (map (λ v. Some v.items) values) nodes
    c.in_ok-setup.ensures.sound c.in_ok-setup.ensures.steps c.in_ok-setup.ensures.root c.in_ok-setup.ensures.once
    c.args.reach.states (c.in_ok-setup.ensures.cut cut))

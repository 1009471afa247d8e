-- Why `left_over` in src/listing.rt keeps its contract and what `first_left` requires.

use Rattle.std.proofs.Common.{◌≡◌, ◌∙◌, Bool, List, Option, ℕ, length, rules, subst, sym}
use Rattle.std.proofs.lemmas.List.{length-map}
use Rattle.std.specs.Prelude.{IfNone}
use Rattle.ls_checked.specs.CheckedTree.{File}
use Rattle.ls_checked.specs.CheckedProgram.{Program}
use Rattle.ls_checked.specs.Plain.{plain_file}
use Rattle.ls_checked.specs.PlainProgram.{plain_program, plain_thread}
use Rattle.ls_search.specs.declared.places.Node.{Node}
use Rattle.ls_search.specs.declared.places.Seen.{Seen}
use Rattle.ls_serial_search.specs.Histories.{lists_of}
use Rattle.ls_transitions.specs.Tables.{Table}
use Rattle.ls_transitions.specs.Seen.{table_of}
use Rattle.ls_endless_calls.specs.Breaking.{AreFine}
use Rattle.ls_endless_calls.proofs.Left.{are_there, none_left}
use Rattle.ls_endless_calls.proofs.listing.left_over.Goals as goal

pub first_left-requires : goal.first_left-requires
first_left-requires c =
    let count : length c.args.program.now.threads.items ≡ c.len.result = search rules in
    record {
      there = are_there (plain_file c.args.file.now) (plain_program c.args.program.now)
          (table_of c.in_ok-setup.field-0.listing.search.transitions)
          c.in_ok-setup.field-0.listing.search.pool.values.items
          c.in_ok-setup.field-0.listing.search.found.nodes.items c.in_ok-setup.ensures.sound c.deref-2.result.now
          c.len.result c.deref-2.ensures.value (length-map c.args.program.now.threads.items plain_thread ∙ count);
    }

pub returns-in-None : goal.returns-in-None
returns-in-None c = λ nothing sfile sprogram are.
    let file : File = plain_file c.args.file.now in
    let program : Program = plain_program c.args.program.now in
    let t : Table = table_of c.in_ok-setup.field-0.listing.search.transitions in
    let nodes : List Node = c.in_ok-setup.field-0.listing.search.found.nodes.items in
    let seen : List Seen = c.in_ok-setup.field-0.listing.search.seen.items in
    let excused : List Bool = c.in_ok-excused.excused.items in
    let found = subst (λ (o : Option ℕ). IfNone o (AreFine t.file c.len.result t c.deref-4.result.now
    c.deref-3.result.now c.deref-2.result.now (length c.deref-2.result.now))) c.in-None.is
    c.in_ok-first_left.ensures.none in
    let count : length c.args.program.now.threads.items ≡ c.len.result = search rules in
    let many : length program.threads ≡ c.len.result =
    length-map c.args.program.now.threads.items plain_thread ∙ count in
    let fine : AreFine t.file (length program.threads) t excused seen nodes (length nodes) =
    subst (λ n. AreFine t.file n t excused seen nodes (length nodes)) (sym many)
    (subst (λ (l : List Bool). AreFine t.file c.len.result t l seen nodes (length nodes)) c.deref-4.ensures.value
    (subst (λ (l : List Seen). AreFine t.file c.len.result t c.deref-4.result.now l nodes (length nodes))
    c.deref-3.ensures.value
    (subst (λ (l : List Node). AreFine t.file c.len.result t c.deref-4.result.now c.deref-3.result.now l (length l))
    c.deref-2.ensures.value found))) in
    none_left file program t c.in_ok-setup.field-0.listing.search.pool.values.items nodes c.in_ok-setup.ensures.sound
    c.in_ok-setup.field-0.setup c.in_ok-setup.ensures.up c.in_ok-setup.ensures.root seen c.in_ok-setup.ensures.expanded
    (c.in_ok-setup.ensures.all c.if-not-complete.false) (lists_of c.args.runs.now) c.deref.result.now excused
    c.deref.ensures.value c.in_ok-excused.ensures fine c.runs_decide.ensures.among sfile sprogram are

-- Why `closed` in src/finding.rt keeps its contract and what it calls with.
use Rattle.std.proofs.Common.{◌≡◌, ℕ, List, [], None, length, map, sym, ap, ◌∙◌, subst}
use Rattle.std.proofs.lemmas.List.{length-map}
use Rattle.ls_checked.specs.CheckedTree.{File}
use Rattle.ls_checked.specs.CheckedProgram.{Program}
use Rattle.ls_checked.specs.Plain.{plain_file}
use Rattle.ls_checked.specs.PlainProgram.{plain_program, plain_thread}
use Rattle.ls_graph.specs.Graph.{IsGraph}
use Rattle.ls_graph.specs.Weights.{total}
use Rattle.ls_meaning.specs.Runs.{source_run}
use Rattle.ls_search_laws.specs.Configuration.{Configuration, configuration_of}
use Rattle.ls_search_laws.specs.Noticing.{Noticed, noticed_of}
use Rattle.ls_transitions.specs.Seen.{table_of}
use Rattle.ls_search.specs.declared.space.Kept.{Kept}
use Rattle.ls_search.specs.Searched.{noticed_at}
use Rattle.ls_search.specs.Space.{GoesTo, Rests}
use Rattle.ls_races.specs.Met.{MeetsUntold}
use Rattle.ls_spinning.specs.Mute.{no_note, nothing_noted}
use Rattle.ls_races.specs.Volatile.{volatile_by}
use Rattle.ls_races.proofs.Extents.{cut_of, few_of, many_objects, reached}
use Rattle.ls_races.proofs.finding.closed.Goals as goal

pub begin-requires-clause-there : goal.begin-requires-clause-there
begin-requires-clause-there c =
    (c.in_ok-numbered.ensures.at (plain_file c.args.scope.file.now) (plain_program c.args.scope.program.now)
    c.in_ok-start.ensures.played).there

pub begin-requires-clause-file : goal.begin-requires-clause-file
begin-requires-clause-file c =
    (c.in_ok-numbered.ensures.at (plain_file c.args.scope.file.now) (plain_program c.args.scope.program.now)
    c.in_ok-start.ensures.played).file_is

pub begin-requires-clause-width : goal.begin-requires-clause-width
begin-requires-clause-width c =
    (c.in_ok-numbered.ensures.at (plain_file c.args.scope.file.now) (plain_program c.args.scope.program.now)
    c.in_ok-start.ensures.played).width
    ∙ length-map c.args.scope.program.now.threads.items plain_thread
    ∙ sym c.plan_of-plan.ensures.actors

pub returns : goal.returns
returns c =
    let file : File = plain_file c.args.scope.file.now in
    let program : Program = plain_program c.args.scope.program.now in
    let volatile = volatile_by (map (λ v. v.items) c.args.scope.classes.now) in
    let closing = c.in_ok-closing.closing in
    let nodes = closing.graph.found.nodes.items in
    let state_of : Kept → Noticed (Unit {0}) = λ n.
    noticed_at tt (table_of c.close.new.tables.transitions) (map no_note c.close.new.tables.pool.values.items)
    n.place in
    let states : List (Noticed (Unit {0})) = map state_of nodes in
    let Is : ℕ → Noticed (Unit {0}) → Type 0 = λ n r.
    IsGraph (Rests tt nothing_noted file program no_note None) (GoesTo tt nothing_noted file program)
    (λ p. MeetsUntold volatile c.args.told.now file p.configuration) n r states closing.graph.edges.items
    closing.looked.items in
    let numbered = c.in_ok-numbered.ensures.at file program c.in_ok-start.ensures.played in
    let begins : configuration_of file program (source_run file program c.in_ok-start.start.steps.items) ≡
    configuration_of file program (source_run file program []) =
    ap (λ s. configuration_of file program (source_run file program s)) c.in_ok-start.ensures.steps in
    let root : noticed_at tt (table_of c.in_ok-beginning.beginning.tables.transitions)
    (map no_note c.in_ok-beginning.beginning.tables.pool.values.items) c.in_ok-beginning.beginning.root.place ≡
    noticed_of tt nothing_noted file program [] =
    c.in_ok-beginning.ensures.stands
    ∙ ap (λ (k : Configuration). record { configuration = k; noted = tt }) (numbered.state ∙ begins) in
    let actors : c.plan_of-plan.result.actors ≡ length program.threads =
    c.plan_of-plan.ensures.actors ∙ sym (length-map c.args.scope.program.now.threads.items plain_thread) in
    let graph : Is (length program.threads) (noticed_of tt nothing_noted file program []) =
    subst (λ n. Is n (noticed_of tt nothing_noted file program [])) actors
    (subst (Is c.plan_of-plan.result.actors) root c.in_ok-closing.ensures.graph) in
    let Ends : Noticed (Unit {0}) → Type 0 = λ p. MeetsUntold volatile c.args.told.now file p.configuration in
    let t = table_of c.close.new.tables.transitions in
    let values = c.close.new.tables.pool.values.items in
    let edges = closing.graph.edges.items in
    let looked = closing.looked.items in
    let grown = c.in_ok-closing.ensures.found in
    let limit = c.args.scope.limit in
    let plan = c.plan_of-plan in
    record {
      graph = record { states = states; many = length-map nodes state_of; graph = graph };
      reached = reached file program Ends t values nodes edges looked closing.graph.by.items graph grown.found
          grown.once;
      few = λ room. few_of limit (length nodes) plan.result.bounds.limit plan.ensures.limit
          (λ r. (c.in_ok-closing.ensures.bounded r).few) room;
      full = λ room full. cut_of file program limit (length nodes) plan.result.bounds.limit plan.result.bounds.weight
          (total (λ (n : Kept). n.weight) nodes) plan.ensures.limit plan.ensures.weight
          (λ r. (c.in_ok-closing.ensures.bounded r).few) room (c.in_ok-closing.ensures.full full)
          (many_objects file program Ends t values nodes edges looked closing.graph.by.items graph grown.found
          grown.once
          (λ at n here. (c.in_ok-closing.ensures.known at n here).weight));
    }

-- The configurations that a search has found are closed.
use Rattle.std.proofs.Common.{◌≡◌, ℕ, zero, suc, ◌<◌, Bool, true, false, not, ◌&&◌, List, length, map, None, Some}
use Rattle.std.proofs.Common.{replicate}
use Rattle.std.proofs.Common.{subst, sym}
use Rattle.std.specs.Prelude.{nat_eq, slice_get}
use Rattle.std.proofs.lemmas.List.{length-map}
use Rattle.ls_events.specs.declared.event.Event.{Event}
use Rattle.ls_events.specs.declared.value.Value.{Value}
use Rattle.ls_events.specs.declared.action.Action.{Action}
use Rattle.ls_events.specs.declared.action.Action.TheVariants as action
use Rattle.ls_events.specs.declared.action.Answer.{Answer}
use Rattle.ls_events.specs.declared.action.Answer.TheVariants as answers
use Rattle.ls_checked.specs.CheckedTree.{File}
use Rattle.ls_checked.specs.CheckedProgram.{Program}
use Rattle.ls_meaning.specs.declared.step.Did.TheVariants as did
use Rattle.ls_meaning.specs.Still.{IsActing}
use Rattle.ls_search_laws.specs.Configuration.{Configuration, stride}
use Rattle.ls_search_laws.specs.Noticing.{Noticed}
use Rattle.ls_search_laws.specs.Search.{LeadsTo}
use Rattle.ls_graph.specs.declared.closing.Edge.{Edge}
use Rattle.ls_graph.specs.Graph.{IsGraph, IsWhole}
use Rattle.ls_graph.proofs.Lists.{below, map_from, map_there}
use Rattle.ls_search.specs.Closed.{HasClosed, IsUnnoticed, LeadsInto, LeadsUnnoticed}
use Rattle.ls_search.specs.Space.{GoesTo, Rests}
use Rattle.ls_search.specs.Strides.{at_once}
use Rattle.ls_search.proofs.Telling.{at_there, leads_on, there_at}

false_not : false ≡ true → ⊥
false_not e = cc

and_right : (a b : Bool) → (a && b) ≡ true → b ≡ true
and_right true b e = e
and_right false b e = absurd (false_not e)

-- what is taken at once is noticed by no other thread
unnoticed : (t : ℕ) (a : Action Value) (x : Answer Value) → at_once t a x ≡ true → IsUnnoticed (did.Acted a x)
unnoticed t (action.ReadField o f) (answers.Gives v) e = absurd (false_not (and_right (not (nat_eq t 0)) false e))
unnoticed t (action.ReadField o f) answers.Done e = absurd (false_not e)
unnoticed t (action.ReadField o f) (answers.Fails kind) e = absurd (false_not e)
unnoticed t action.Turn x e = tt
unnoticed t (action.Enter m) x e = tt
unnoticed t _ x e = absurd (false_not e)

leads_unnoticed : (file : File) (t n : ℕ) (c last : Configuration) → LeadsTo at_once file c (replicate n t) last →
    LeadsUnnoticed file t n c last
leads_unnoticed file t zero c last leads = leads
leads_unnoticed file t (suc n) c last leads = (
  subst IsUnnoticed (sym leads.0.did) (unnoticed t leads.0.action leads.0.answer leads.0.chosen),
  leads_unnoticed file t n (stride file c t).after last leads.1,
)

module _ {N S : Type 0} (stands : N → S) (first : S) (next : S → Event → S) (file : File) (program : Program)
    (threads : ℕ) (Ends : Noticed S → Type 0) (root : Noticed S) (states : List (Noticed S)) (edges : List Edge)
    (looked : List Bool)
    (graph : IsGraph (Rests first next file program stands None) (GoesTo first next file program) Ends threads root
    states edges looked) (whole : IsWhole (length states) looked) where
  abbrev configurations : List Configuration
  configurations = map (λ (p : Noticed S). p.configuration) states

  leads_into : (at : ℕ) (p : Noticed S) → slice_get states at ≡ Some p → (u : ℕ) → u < threads →
      IsActing (stride file p.configuration u).did →
      LeadsInto file configurations (stride file p.configuration u).after
  leads_into at p here u within acts =
      let i = leads_on stands first next file program threads Ends root states edges looked graph at p here
      (whole at (below states at p here)) u within acts in record {
        one = i.other.configuration;
        there = at_there configurations i.place i.other.configuration
            (map_there (λ (q : Noticed S). q.configuration) states i.place i.other i.there);
        thread = u;
        steps = i.steps;
        last = i.goes.reaches.last;
        leads = leads_unnoticed file u i.steps (stride file p.configuration u).after i.goes.reaches.last
            i.goes.reaches.leads;
        names = i.goes.reaches.other.names;
        renaming = i.goes.reaches.other.renaming;
        same = i.goes.reaches.other.same;
      }

  pub has_closed : HasClosed file threads root.configuration (length states)
  has_closed = record {
    list = configurations;
    many = length-map states (λ (p : Noticed S). p.configuration);
    begins = map_there (λ (p : Noticed S). p.configuration) states 0 root graph.begins;
    more = λ c u there within acts.
        let m = map_from (λ (p : Noticed S). p.configuration) states there.0 c (there_at configurations c there) in
        subst (λ (d : Configuration). IsActing (stride file d u).did →
        LeadsInto file configurations (stride file d u).after) m.2
        (leads_into there.0 m.0 m.1 u within) acts;
  }

-- What the rows of a list of states tell of all schedules.
use Rattle.std.proofs.Common.{◌≡◌, ◌≢◌, ◌<◌, ℕ, Bool, true, false, List, [], ◌∷◌, length, map, Option, Some}
use Rattle.std.proofs.Common.{refl, sym, ap, ◌∙◌, subst}
use Rattle.std.proofs.Common.{arith, replicate, Vec, Global}
use Rattle.std.specs.Prelude.{Contains, slice_get}
use Rattle.std.proofs.lemmas.Option.{slice_get_within}
use Rattle.ls_events.specs.declared.event.Event.{Event}
use Rattle.ls_checked.specs.CheckedTree.{File}
use Rattle.ls_checked.specs.CheckedProgram.{Program}
use Rattle.ls_search_laws.specs.Histories.{one_more}
use Rattle.ls_search_laws.specs.Noticing.{noticed_of}
use Rattle.ls_search_laws.specs.Stepping.{SetsUp}
use Rattle.ls_transitions.specs.Tables.{Table}
use Rattle.ls_transitions.proofs.Keeping.{there}
use Rattle.ls_search.specs.declared.places.Node.{Node}
use Rattle.ls_search.specs.declared.places.Seen.{Seen}
use Rattle.ls_search.specs.Listed.{AreSteps, StandOnce, paths_of}
use Rattle.ls_search.specs.Searched.{AreExpanded, IsSound, pairs_at}
use Rattle.ls_search.specs.Nameless.{nameless_next}
use Rattle.ls_source_rows.specs.Listed.{TellListed, ending_by, ending_of}
use Rattle.ls_source_rows.specs.Rows.{AreTrue, TellWhole, TellStates}
use Rattle.ls_source_rows.specs.declared.rows.Ending.TheVariants as ending
use Rattle.ls_source_rows.specs.declared.rows.Row.{Row}
use Rattle.ls_source_rows.proofs.Paths.{tell_states}
use Rattle.ls_source_rows.proofs.Truth.{row_is}
use Rattle.ls_source_rows.proofs.Whole.{begun, ended}

-- what the observer notes stands for these histories
pub states_are : (vs : List (Vec Event Global)) → map (λ v. Some v.items) vs ≡ map Some (map (λ v. v.items) vs)
states_are [] = refl
states_are (v ∷ vs) = ap (λ l. Some v.items ∷ l) (states_are vs)

seen_by : (acts waits : Bool) → ending_by acts waits ≢ ending.NotSeen
seen_by true waits e = cc
seen_by false true e = cc
seen_by false false e = cc

module _ (file : File) (program : Program) (k : ℕ) (up : SetsUp file program k) (t : Table)
    (states : List (Option (List Event))) (histories : List (List Event)) (same : states ≡ map Some histories)
    (nodes : List Node)
    (sound : IsSound (Some []) (nameless_next one_more) file program (length program.threads) t states nodes)
    (steps : AreSteps file (pairs_at (Some []) t states nodes) nodes)
    (begins : slice_get (pairs_at (Some []) t states nodes) 0 ≡
    Some (noticed_of (Some []) (nameless_next one_more) file program (replicate k 0))) (seen : List Seen)
    (rows : List Row) (told : TellListed histories nodes seen rows) where
  is_sound : IsSound (Some []) (nameless_next one_more) file program (length program.threads) t (map Some histories)
      nodes
  is_sound =
      subst (λ (l : List (Option (List Event))). IsSound (Some []) (nameless_next one_more) file program
      (length program.threads) t l nodes) same sound

  are_steps : AreSteps file (pairs_at (Some []) t (map Some histories) nodes) nodes
  are_steps = subst (λ (l : List (Option (List Event))). AreSteps file (pairs_at (Some []) t l nodes) nodes) same steps

  is_root : slice_get (pairs_at (Some []) t (map Some histories) nodes) 0 ≡
      Some (noticed_of (Some []) (nameless_next one_more) file program (replicate k 0))
  is_root =
      subst (λ (l : List (Option (List Event))). slice_get (pairs_at (Some []) t l nodes) 0 ≡
      Some (noticed_of (Some []) (nameless_next one_more) file program (replicate k 0))) same begins

  pub states_told : StandOnce (paths_of nodes) → TellStates file program k rows (length nodes)
  states_told once =
      tell_states file program k up t histories nodes is_sound are_steps is_root once seen rows told

  module _ (expanded : AreExpanded (Some []) (nameless_next one_more) file program
      (pairs_at (Some []) t states nodes) (length program.threads) seen) where
    are_expanded : AreExpanded (Some []) (nameless_next one_more) file program
        (pairs_at (Some []) t (map Some histories) nodes) (length program.threads) seen
    are_expanded =
        subst (λ (l : List (Option (List Event))). AreExpanded (Some []) (nameless_next one_more) file program
        (pairs_at (Some []) t l nodes) (length program.threads) seen) same expanded

    pub rows_true : AreTrue file program k rows
    rows_true r c =
        let o = told.own r c in
        row_is file program k up t histories nodes is_sound are_steps is_root seen are_expanded o.0 r o.1

    pub all_told : length seen ≡ length nodes → TellWhole file program rows
    all_told all = record {
      begun = begun file program k up t histories nodes is_sound is_root seen are_expanded all rows told;
      ended = ended file program k up t histories nodes is_sound is_root seen are_expanded all rows told;
      seen = was_seen;
    }
      where
        was_seen : (r : Row) → Contains rows r → r.ending ≢ ending.NotSeen
        was_seen r c not =
            let o = told.own r c in
            let within : o.0 < length nodes = slice_get_within nodes o.0 o.1.node o.1.here in
            let s = there seen o.0 (omega (arith, within, all)) in
            seen_by s.0.acts s.0.waits (ap ending_of (sym s.1) ∙ sym o.1.ending ∙ not)

-- The paths to the states that were found, and what rows tell of them.
use Rattle.std.proofs.Common.{◌≡◌, ◌≢◌, ℕ, ◌<◌, List, [], ◌++◌, length, map, Some, sym, ap, ◌∙◌, subst, arith}
use Rattle.std.proofs.Common.{replicate, get_or}
use Rattle.std.specs.Prelude.{AllPairs, Contains, slice_get}
use Rattle.std.proofs.lemmas.Option.{get_or_from_slice_get, slice_get-get_or, slice_get_within}
use Rattle.ls_events.specs.Beginnings.{IsBeginning}
use Rattle.ls_events.specs.declared.event.Event.{Event}
use Rattle.ls_checked.specs.CheckedTree.{File}
use Rattle.ls_checked.specs.CheckedProgram.{Program}
use Rattle.ls_meaning.specs.Runs.{source_history}
use Rattle.ls_search_laws.specs.Histories.{one_more}
use Rattle.ls_search_laws.specs.Noticing.{noticed_of}
use Rattle.ls_search_laws.specs.Stepping.{SetsUp}
use Rattle.ls_transitions.specs.Tables.{Table}
use Rattle.ls_transitions.proofs.Keeping.{there}
use Rattle.ls_search.specs.declared.places.Node.{Node}
use Rattle.ls_search.specs.declared.places.Seen.{Seen}
use Rattle.ls_search.specs.Listed.{AreSteps, StandOnce, paths_of}
use Rattle.ls_search.specs.Searched.{IsSound, pairs_at}
use Rattle.ls_search.proofs.Tracks.{length-paths, path_there}
use Rattle.ls_search.specs.Nameless.{nameless_next}
use Rattle.ls_source_rows.specs.Listed.{IsBegunBy, TellListed}
use Rattle.ls_source_rows.specs.Rows.{ActAll, IsBegun, TellStates}
use Rattle.ls_source_rows.specs.declared.rows.Row.{Row}
use Rattle.ls_source_rows.proofs.Truth.{acts_all, history_is}

some_is : {A : Type 0} {x y : A} → Some x ≡ Some y → x ≡ y
some_is h = cc

module _ (file : File) (program : Program) (k : ℕ) (up : SetsUp file program k) (t : Table)
    (histories : List (List Event)) (nodes : List Node)
    (sound : IsSound (Some []) (nameless_next one_more) file program (length program.threads) t (map Some histories)
    nodes)
    (steps : AreSteps file (pairs_at (Some []) t (map Some histories) nodes) nodes)
    (begins : slice_get (pairs_at (Some []) t (map Some histories) nodes) 0 ≡
    Some (noticed_of (Some []) (nameless_next one_more) file program (replicate k 0)))
    (once : StandOnce (paths_of nodes)) (seen : List Seen) (rows : List Row)
    (told : TellListed histories nodes seen rows) where
  -- the state of a path
  record IsPathOf (path : List ℕ) : Type 0 where
    at : ℕ
    node : Node
    here : slice_get nodes at ≡ Some node
    is : get_or (paths_of nodes) at [] ≡ path

  path_of : (path : List ℕ) → Contains (paths_of nodes) path → IsPathOf path
  path_of path c =
      let path_is : slice_get (paths_of nodes) c.0 ≡ Some path =
      slice_get-get_or (paths_of nodes) c.0 path c.1 ∙ ap Some c.2 in
      let n = there nodes c.0 (omega (arith, c.1, length-paths nodes)) in
      record {
        at = c.0;
        node = n.0;
        here = n.1;
        is = get_or_from_slice_get (paths_of nodes) c.0 path [] path_is;
      }

  acts : (path : List ℕ) → Contains (paths_of nodes) path → ActAll file program (replicate k 0 ++ path)
  acts path c =
      let p = path_of path c in
      subst (λ ts. ActAll file program (replicate k 0 ++ ts)) p.is
      (acts_all file program k up t histories nodes sound steps begins p.at p.node p.here)

  told_so : (path : List ℕ) → Contains (paths_of nodes) path →
      IsBegun rows (source_history file program (replicate k 0 ++ path))
  told_so path c =
      let p = path_of path c in
      let b : IsBegunBy histories nodes seen rows p.node = told.covers p.at p.node p.here in
      record {
        row = b.row;
        there = b.there;
        begins = subst (λ h. IsBeginning h b.row.history.items)
            (history_is file program k up t histories nodes sound steps begins p.at p.node p.here b.history b.is
            ∙ ap (λ ts. source_history file program (replicate k 0 ++ ts)) p.is)
            b.begins;
      }

  own : (r : Row) → Contains rows r → Contains (paths_of nodes) r.path.items
  own r c =
      let o = told.own r c in
      let within : o.0 < length nodes = slice_get_within nodes o.0 o.1.node o.1.here in
      let path_is : slice_get (paths_of nodes) o.0 ≡ Some r.path.items =
      path_there nodes o.0 within ∙ ap Some (sym o.1.path) in (
        o.0,
        slice_get_within (paths_of nodes) o.0 r.path.items path_is,
        get_or_from_slice_get (paths_of nodes) o.0 r.path.items r.path.items path_is,
      )

  apart : AllPairs (λ (p q : List ℕ). p ≢ q) (paths_of nodes)
  apart i j d less within same =
      let i_within : i < length (paths_of nodes) = omega arith in
      let e : i ≡ j =
      once i j (get_or (paths_of nodes) i d) (slice_get-get_or (paths_of nodes) i d i_within)
      (slice_get-get_or (paths_of nodes) j d within ∙ ap Some (sym same)) in
      omega (arith, e)

  pub tell_states : TellStates file program k rows (length nodes)
  tell_states = record {
    paths = paths_of nodes;
    many = length-paths nodes;
    apart = apart;
    acts = acts;
    told = told_so;
    own = own;
  }

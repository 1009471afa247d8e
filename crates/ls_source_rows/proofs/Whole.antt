-- What a complete list of states tells of all schedules.
use Rattle.std.proofs.Common.{◌≡◌, ◌⊎◌, inl, inr, ℕ, ◌+◌, ◌-◌, ◌<◌, true, false, List, [], ◌∷◌, ◌++◌, length}
use Rattle.std.proofs.Common.{map, Option, Some}
use Rattle.std.proofs.Common.{refl, sym, ap, ◌∙◌, subst, arith, replicate, append_assoc, append-nil}
use Rattle.std.specs.Prelude.{Contains, slice_get}
use Rattle.std.specs.List.{fold}
use Rattle.std.proofs.lemmas.Bool.{cases_Bool}
use Rattle.std.proofs.lemmas.List.{replicate-append-replicate}
use Rattle.std.proofs.lemmas.List.Elements.{filter_map-append}
use Rattle.std.proofs.lemmas.Option.{get_or_from_slice_get, slice_get-get_or}
use Rattle.ls_events.specs.Beginnings.{IsBeginning}
use Rattle.ls_events.specs.declared.value.Value.{Value}
use Rattle.ls_events.specs.declared.event.Event.{Event}
use Rattle.ls_checked.specs.CheckedTree.{File}
use Rattle.ls_checked.specs.CheckedProgram.{Program}
use Rattle.ls_meaning.specs.declared.step.Did.{Did}
use Rattle.ls_meaning.specs.declared.step.Did.TheVariants as did
use Rattle.ls_meaning.specs.Steps.{Entry, trace}
use Rattle.ls_meaning.specs.Runs.{event_of, history_of, source_history, source_run, source_step, source_trace, start}
use Rattle.ls_meaning.specs.Still.{IsActing, IsOver, IsStill}
use Rattle.ls_meaning.specs.Renamings.{IsRenaming}
use Rattle.ls_search_laws.specs.Configuration.{stride}
use Rattle.ls_search_laws.specs.Histories.{one_more}
use Rattle.ls_search_laws.specs.Noticing.{Noticed, noticed_after, noticed_of}
use Rattle.ls_search_laws.specs.Search.{IsEndFound, IsFound, IsSearch}
use Rattle.ls_search_laws.specs.Stepping.{IsBefore, SetsUp}
use Rattle.ls_search_laws.proofs.Search.{finds_all, finds_ends}
use Rattle.ls_search_laws.proofs.Stepping.{trace-append}
use Rattle.ls_transitions.specs.Tables.{Table}
use Rattle.ls_transitions.proofs.Keeping.{below, there}
use Rattle.ls_search.specs.declared.places.Node.{Node}
use Rattle.ls_search.specs.declared.places.Seen.{Seen}
use Rattle.ls_search.specs.Answers.{ClosesAll}
use Rattle.ls_search.specs.Searched.{AreExpanded, IsExpanded, IsIn, IsSound, noticed_at, pairs_at}
use Rattle.ls_search.specs.Strides.{at_once}
use Rattle.ls_search.proofs.Pairs.{map_from, map_there}
use Rattle.ls_search.specs.Nameless.{nameless_bad, nameless_next}
use Rattle.ls_search.proofs.Judging.{noted_is, searched}
use Rattle.ls_source_rows.specs.Listed.{HasEndOf, IsBegunBy, TellListed}
use Rattle.ls_source_rows.specs.Rows.{HasEnd, IsBegun}
use Rattle.ls_source_rows.specs.declared.rows.Row.{Row}

some_is : {A : Type 0} {x y : A} → Some x ≡ Some y → x ≡ y
some_is h = cc

-- ---- histories

-- what is noted of a history is the history
pub folded : (g h : List Event) → fold one_more g h ≡ g ++ h
folded g [] = sym (append-nil g)
folded g (e ∷ h) = folded (g ++ e ∷ []) h ∙ append_assoc g (e ∷ []) h

-- more steps go on from a history
goes_on_from : (file : File) (program : Program) (s ts : List ℕ) →
    IsBeginning (source_history file program s) (source_history file program (s ++ ts))
goes_on_from file program s ts =
    let rest : List (Entry Value) = trace (source_step file program) (source_run file program s) ts in (
      history_of rest,
      sym (ap history_of (trace-append (source_step file program) (start program) s ts)
          ∙ filter_map-append (λ (e : Entry Value). event_of e.thread e.action) (source_trace file program s) rest),
    )

begins_so : (f g h : List Event) → IsBeginning f g → IsBeginning g h → IsBeginning f h
begins_so f g h (r, e) (q, d) = (r ++ q, sym (append_assoc f r q) ∙ ap (λ l. l ++ q) e ∙ d)

steps_more : (n m : ℕ) → replicate {A = ℕ} (n + m) 0 ≡ replicate n 0 ++ replicate m 0
steps_more n m = sym (replicate-append-replicate n m 0)

abbrev pub First : Option (List Event)
First = Some []

-- a place, where no path is told of
abbrev nowhere : Option ℕ
nowhere = Some 0

abbrev pub Next : Option (List Event) → Event → Option (List Event)
Next = nameless_next one_more

module _ (file : File) (program : Program) (k : ℕ) (up : SetsUp file program k) (t : Table)
    (histories : List (List Event)) (nodes : List Node)
    (sound : IsSound First Next file program (length program.threads) t (map Some histories) nodes)
    (begins : slice_get (pairs_at First t (map Some histories) nodes) 0 ≡
    Some (noticed_of First Next file program (replicate k 0)))
    (seen : List Seen)
    (expanded : AreExpanded First Next file program (pairs_at First t (map Some histories) nodes)
    (length program.threads) seen)
    (all : length seen ≡ length nodes) where
  abbrev pub pairs : List (Noticed (Option (List Event)))
  pairs = pairs_at First t (map Some histories) nodes

  abbrev root : Noticed (Option (List Event))
  root = noticed_of First Next file program (replicate k 0)

  -- the state of a pair
  pub record Found (p : Noticed (Option (List Event))) : Type 0 where
    pub at : ℕ
    pub node : Node
    pub node_is : slice_get nodes at ≡ Some node
    pub pair_is : slice_get pairs at ≡ Some p
    pub noted : (h : List Event) → slice_get histories node.place.noted ≡ Some h → p.noted ≡ Some h

  pub found : (p : Noticed (Option (List Event))) → Contains pairs p → Found p
  found p c =
      let p_is : slice_get pairs c.0 ≡ Some p = slice_get-get_or pairs c.0 p c.1 ∙ ap Some c.2 in
      let n = map_from (λ (m : Node). noticed_at First t (map Some histories) m.place) nodes c.0 p p_is in
      record {
        at = c.0;
        node = n.0;
        node_is = n.1;
        pair_is = p_is;
        noted = λ h e.
            ap (λ (q : Noticed (Option (List Event))). q.noted) (sym n.2)
            ∙ get_or_from_slice_get (map Some histories) n.0.place.noted (Some h) First
            (map_there Some histories n.0.place.noted h e);
      }

  -- what a thread leads to is one of the list
  is_found : (p : Noticed (Option (List Event))) → IsIn file pairs p →
      IsFound at_once IsRenaming (λ m n. m ≡ n) file pairs p
  is_found p h = record {
    pair = h.pair;
    there = (h.place, below pairs h.place h.pair h.here, get_or_from_slice_get pairs h.place h.pair h.pair h.here);
    threads = replicate h.steps h.thread;
    last = h.reaches.last;
    leads = h.reaches.leads;
    names = h.reaches.other.names;
    allowed = h.reaches.other.renaming;
    same = h.reaches.other.same;
    alike = h.reaches.noted_still;
  }

  leads_more : (p : Noticed (Option (List Event))) (u : ℕ) → Contains pairs p → u < length program.threads →
      IsActing (stride file p.configuration u).did →
      IsFound at_once IsRenaming (λ m n. m ≡ n) file pairs (noticed_after First Next file program p u)
  leads_more p u c within acts =
      let f = found p c in
      let s = there seen f.at (let b = below nodes f.at f.node f.node_is in omega (arith, b, all)) in
      is_found (noticed_after First Next file program p u)
      ((expanded f.at p s.0 f.pair_is s.1).leads u within acts)

  noted_so : (p : Noticed (Option (List Event))) → Contains pairs p → (h : List Event) × (Some h ≡ p.noted)
  noted_so p c =
      let f = found p c in
      let s = there (map Some histories) f.node.place.noted (sound.are f.at f.node f.node_is).noted_there in
      let h = map_from Some histories f.node.place.noted s.0 s.1 in
      (h.0, sym (f.noted h.0 h.1))

  abbrev closes : ClosesAll (λ (h : List Event). Some h) First Next (nameless_bad (λ h. false)) file program
      (length program.threads) root nowhere nowhere
  closes = record {
    pairs = pairs;
    begins = begins;
    more = leads_more;
    noted = noted_so;
    good = tt;
    free = tt;
  }

  pub is_search : IsSearch First Next at_once IsRenaming (λ m n. m ≡ n) file program k pairs
  is_search = searched (λ (h : List Event). h) [] one_more (λ h. false) file program k nowhere nowhere up closes

  -- what is noted of a schedule is its history
  pub of_schedule : (schedule : List ℕ) (h : List Event) →
      (noticed_of First Next file program schedule).noted ≡ Some h →
      h ≡ source_history file program schedule
  of_schedule schedule h e =
      sym (noted_is one_more [] h (source_history file program schedule) e)
      ∙ folded [] (source_history file program schedule)

  root_there : Contains pairs root
  root_there = (0, below pairs 0 root begins, get_or_from_slice_get pairs 0 root root begins)

  -- ---- what rows tell

  module _ (rows : List Row) (told : TellListed histories nodes seen rows) where
    -- where a pair is noted as a schedule, the schedule's history begins a row's
    begun_pair : (p : Noticed (Option (List Event))) → Contains pairs p → (schedule : List ℕ) →
        p.noted ≡ (noticed_of First Next file program schedule).noted →
        IsBegun rows (source_history file program schedule)
    begun_pair p c schedule same =
        let f = found p c in
        let b : IsBegunBy histories nodes seen rows f.node = told.covers f.at f.node f.node_is in
        record {
          row = b.row;
          there = b.there;
          begins = subst (λ h. IsBeginning h b.row.history.items)
              (of_schedule schedule b.history (sym same ∙ f.noted b.history b.is)) b.begins;
        }

    begun_before : (schedule : List ℕ) → IsBefore file program k schedule →
        IsBegun rows (source_history file program schedule)
    begun_before schedule b =
        let is : k ≡ b.count + (k - b.count) = omega (arith, b.fewer) in
        let whole : IsBeginning (source_history file program (replicate b.count 0))
        (source_history file program (replicate k 0)) =
        subst (λ ts. IsBeginning (source_history file program (replicate b.count 0)) (source_history file program ts))
        (sym (ap (λ n. replicate n 0) is ∙ steps_more b.count (k - b.count)))
        (goes_on_from file program (replicate b.count 0) (replicate (k - b.count) 0)) in
        let r : IsBegun rows (source_history file program (replicate k 0)) =
        begun_pair root root_there (replicate k 0) refl in
        record {
          row = r.row;
          there = r.there;
          begins = subst (λ h. IsBeginning h r.row.history.items) (sym b.history)
              (begins_so (source_history file program (replicate b.count 0))
              (source_history file program (replicate k 0))
              r.row.history.items whole r.begins);
        }

    pub begun : (schedule : List ℕ) → IsBegun rows (source_history file program schedule)
    begun schedule =
        by_case (finds_all First Next at_once IsRenaming (λ m n. m ≡ n) file program k pairs is_search schedule)
      where
        by_case : IsFound at_once IsRenaming (λ m n. m ≡ n) file pairs
            (noticed_of First Next file program schedule) ⊎ IsBefore file program k schedule →
            IsBegun rows (source_history file program schedule)
        by_case (inl f) = begun_pair f.pair f.there schedule f.alike
        by_case (inr b) = begun_before schedule b

    acting_still : (d : Did) → IsActing d → IsStill d → ⊥
    acting_still (did.Acted action answer) acts still = still
    acting_still did.Waits acts still = acts
    acting_still did.Idle acts still = acts

    pub ended : (schedule : List ℕ) → IsOver file program (source_run file program schedule) →
        HasEnd rows (source_history file program schedule)
    ended schedule over =
        by_end (finds_ends First Next at_once IsRenaming (λ m n. m ≡ n) file program k pairs is_search schedule over)
      where
        by_acts : (p : Noticed (Option (List Event))) (s : Seen) →
            IsExpanded First Next file program pairs (length program.threads) p s →
            ((u : ℕ) → IsStill (stride file p.configuration u).did) →
            (s.acts ≡ true) ⊎ (s.acts ≡ false) →
            s.acts ≡ false
        by_acts p s h still (inl is_so) =
            let u = h.acting is_so in absurd (acting_still (stride file p.configuration u.0).did u.2 (still u.0))
        by_acts p s h still (inr isnt) = isnt

        by_end : IsEndFound First Next at_once IsRenaming (λ m n. m ≡ n) file program pairs schedule →
            HasEnd rows (source_history file program schedule)
        by_end end =
            let p : Noticed (Option (List Event)) = end.found.pair in
            let f = found p end.found.there in
            let s = there seen f.at (let b = below nodes f.at f.node f.node_is in omega (arith, b, all)) in
            let h : IsExpanded First Next file program pairs (length program.threads) p s.0 =
            expanded f.at p s.0 f.pair_is s.1 in
            let still : s.0.acts ≡ false = by_acts p s.0 h end.over (cases_Bool s.0.acts) in
            let e : HasEndOf histories nodes seen rows f.node = told.ended f.at f.node s.0 f.node_is s.1 still in
            record {
              row = e.row;
              there = e.there;
              same = of_schedule schedule e.row.history.items
                  (sym end.found.alike ∙ f.noted e.row.history.items e.history);
              ends = e.ends;
            }

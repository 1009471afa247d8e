-- What is left of several histories.
use Rattle.std.proofs.Common.{◌≡◌, ◌<◌, ◌+◌, ℕ, true, false, ◌||◌, List, [], ◌∷◌, ◌++◌}
use Rattle.std.proofs.Common.{Option, None, Some, drop, take, length, get_or, refl, sym, ap, ◌∙◌, subst, arith}
use Rattle.std.specs.Prelude.{slice_get, slice_index_or}
use Rattle.std.specs.List.{Any, Contains, cons_option, fold, list_any}
use Rattle.std.proofs.lemmas.List.{append-nil, get_or-map, length-map, map-append}
use Rattle.std.proofs.lemmas.List.Elements.{filter_map-append}
use Rattle.std.proofs.lemmas.List.Folds.{Any-from_list_any, list_any-from_Any, list_any_at}
use Rattle.ls_events.specs.declared.event.Event.{Event}
use Rattle.ls_fewest_switches.specs.Along.{is_whole, left_after, left_of}
use Rattle.ls_fewest_switches.specs.Among.{history_at, is_one_whole, lefts_after, lefts_at}
use Rattle.ls_fewest_switches.proofs.Items.{one_more, take_next}
use Rattle.ls_fewest_switches.proofs.Left.{never_whole, whole_at, whole_is}

-- ---- which histories are bad

module _ (es : List Event) where
  over_kept : (left : Option (List Event)) (rest : List (List Event)) →
      list_any (λ l. is_whole (fold left_after (Some l) es)) (cons_option left rest) ≡
      (is_whole (fold left_after left es) || list_any (λ l. is_whole (fold left_after (Some l) es)) rest)
  over_kept None rest =
      ap (λ b. b || list_any (λ l. is_whole (fold left_after (Some l) es)) rest) (sym (never_whole es))
  over_kept (Some left) rest = refl

  over_next : (e : Event) (lefts : List (List Event)) →
      list_any (λ l. is_whole (fold left_after (Some l) es)) (lefts_after lefts e) ≡
      list_any (λ l. is_whole (fold left_after (Some l) (e ∷ es))) lefts
  over_next e [] = refl
  over_next e (left ∷ lefts) =
      over_kept (left_of left e) (lefts_after lefts e)
      ∙ ap (λ b. is_whole (fold left_after (left_of left e) es) || b) (over_next e lefts)

-- one of them is over if one of them is so alone
one_over : (es : List Event) (lefts : List (List Event)) →
    is_one_whole (fold lefts_after lefts es) ≡ list_any (λ l. is_whole (fold left_after (Some l) es)) lefts
one_over [] lefts = refl
one_over (e ∷ es) lefts = one_over es (lefts_after lefts e) ∙ over_next es e lefts

-- the events that make one of them over are those of one of them
pub one_is : (histories : List (List Event)) (es : List Event) →
    is_one_whole (fold lefts_after histories es) ≡ true → Contains histories es
one_is histories es whole =
    let one : Any (λ l. is_whole (fold left_after (Some l) es) ≡ true) histories =
    Any-from_list_any (λ l. is_whole (fold left_after (Some l) es)) histories (sym (one_over es histories) ∙ whole) in
    let same : es ≡ one.1 = whole_is one.1 es one.4 in
    (one.0, one.2, subst (λ (h : List Event). slice_index_or histories one.0 h ≡ h) (sym same) one.3)

-- and those make it so
pub is_one : (histories : List (List Event)) (es : List Event) → Contains histories es →
    is_one_whole (fold lefts_after histories es) ≡ true
is_one histories es has =
    one_over es histories
    ∙ list_any-from_Any (λ l. is_whole (fold left_after (Some l) es)) histories
    (has.0, es, has.1, has.2, whole_at es)

-- where none is left, none is ever over
pub never_one : (es : List Event) → is_one_whole (fold lefts_after [] es) ≡ false
never_one [] = refl
never_one (e ∷ es) = never_one es

-- ---- place by place

module _ (histories : List (List Event)) (done : ℕ) where
  lefts_more : (which : List ℕ) (i at : ℕ) → slice_get which i ≡ Some at →
      lefts_at histories done (take (i + 1) which) ≡
      lefts_at histories done (take i which) ++ drop done (history_at histories at) ∷ []
  lefts_more which i at here =
      ap (λ n. lefts_at histories done (take n which)) (one_more i)
      ∙ ap (lefts_at histories done) (take_next which i at here)
      ∙ map-append (λ k. drop done (history_at histories k)) (take i which) (at ∷ [])

  module _ (e : Event) (which : List ℕ) (i at : ℕ) (here : slice_get which i ≡ Some at) where
    after_more : lefts_after (lefts_at histories done (take (i + 1) which)) e ≡
        lefts_after (lefts_at histories done (take i which)) e
        ++ cons_option (left_of (drop done (history_at histories at)) e) []
    after_more =
        ap (λ l. lefts_after l e) (lefts_more which i at here)
        ∙ filter_map-append (λ left. left_of left e) (lefts_at histories done (take i which))
        (drop done (history_at histories at) ∷ [])

    module _ (kept : List ℕ) (so_far : lefts_at histories (done + 1) kept ≡
        lefts_after (lefts_at histories done (take i which)) e) where
      -- the history at the place goes on so
      pub one_kept : (count : ℕ) →
          Some (drop count (history_at histories at)) ≡ left_of (drop done (history_at histories at)) e →
          count ≡ done + 1 →
          lefts_at histories (done + 1) (kept ++ at ∷ []) ≡ lefts_after (lefts_at histories done (take (i + 1) which)) e
      one_kept count left is =
          map-append (λ k. drop (done + 1) (history_at histories k)) kept (at ∷ [])
          ∙ ap (λ (l : List (List Event)). l ++ drop (done + 1) (history_at histories at) ∷ []) so_far
          ∙ ap (λ n. lefts_after (lefts_at histories done (take i which)) e ++ drop n (history_at histories at) ∷ [])
          (sym is)
          ∙ ap (λ o. lefts_after (lefts_at histories done (take i which)) e ++ cons_option o []) left
          ∙ sym after_more

      -- it goes on otherwise
      pub none_kept : None ≡ left_of (drop done (history_at histories at)) e →
          lefts_at histories (done + 1) kept ≡ lefts_after (lefts_at histories done (take (i + 1) which)) e
      none_kept left =
          so_far
          ∙ sym (append-nil (lefts_after (lefts_at histories done (take i which)) e))
          ∙ ap (λ o. lefts_after (lefts_at histories done (take i which)) e ++ cons_option o []) left
          ∙ sym after_more

-- one of them is over if the one at a place is
pub one_whole : (histories : List (List Event)) (done : ℕ) (which : List ℕ) (i : ℕ) → i < length which →
    is_whole (Some (drop done (history_at histories (get_or which i 0)))) ≡ true →
    is_one_whole (lefts_at histories done which) ≡ true
one_whole histories done which i within whole =
    let lefts : List (List Event) = lefts_at histories done which in
    let inside : i < length lefts = omega (arith, within, length-map which (λ k. drop done (history_at histories k))) in
    list_any_at (λ left. is_whole (Some left)) lefts i [] inside
    (ap (λ left. is_whole (Some left)) (get_or-map (λ k. drop done (history_at histories k)) which i 0 [] within) ∙
    whole)

-- Histories, one line after the other.
use Rattle.std.proofs.Common.{◌≡◌, ◌∙◌, ◌&&◌, ◌==◌, ◌+◌, ◌<◌, ◌≤◌, ◌^◌, ℕ, Bool, true, false, cond, List, [], ◌∷◌, ◌++◌}
use Rattle.std.proofs.Common.{length, refl, sym, ap, subst, arith, codes, append_assoc, append-nil, eqb-true}
use Rattle.std.specs.Prelude.{Option, Some, None, find, nat_le, not, reverse}
use Rattle.std.specs.List.{list_all}
use Rattle.std.specs.Str.{bytes_eq}
use Rattle.std.specs.Fmt.{decimal}
use Rattle.std.proofs.lemmas.Bool.{and_from, and_parts, le-leb, leb-true}
use Rattle.std.proofs.lemmas.Grind.{flat_map-append, reverse_onto}
use Rattle.std.proofs.lemmas.List.{length-append}
use Rattle.ls_events.specs.declared.kind.Kind.{Kind}
use Rattle.ls_events.specs.declared.kind.Kind.TheVariants as kinds
use Rattle.ls_report.specs.Events.{Called, Event, Made, Occurrence, Returned, Text, Trapped}
use Rattle.ls_report.specs.Discipline.{continues, has_names, has_value, is_call, is_history, is_making, is_next}
use Rattle.ls_report.specs.Discipline.{is_placed, is_return, is_shown, is_well_formed, last_of, may_follow}
use Rattle.ls_report.specs.Lines.{arguments_text, event_text, history_text, kind_text, line, occurrence_text}
use Rattle.ls_report.specs.Cut.{cut}
use Rattle.ls_lexer.specs.Names.{is_name}
use Rattle.ls_report.specs.Reading.{BreaksAt}
use Rattle.ls_report.proofs.CutLemmas.{cut_at, cut_parts, first_of_two, lacks, lacks-append, lacks-decimal, none_is}
use Rattle.ls_report.proofs.CutLemmas.{some_is, two, without}
use Rattle.ls_report.proofs.Values.{is_feed, lacks-arguments, lacks-value}
use Rattle.ls_report.proofs.Parts.{lacks-name, well_named}

-- ---- a line is one line

lacks-kind : (k : Kind) → lacks 10 (kind_text k) ≡ true
lacks-kind kinds.Arithmetic = refl
lacks-kind kinds.NullPointer = refl
lacks-kind kinds.ArrayIndexOutOfBounds = refl
lacks-kind kinds.NegativeArraySize = refl
lacks-kind kinds.IllegalMonitorState = refl
lacks-kind kinds.StackOverflow = refl
lacks-kind kinds.Error = refl

lacks-occurrence : (o : Occurrence) → has_names o ≡ true → lacks 10 (occurrence_text o) ≡ true
lacks-occurrence (Made object class vs) h =
    let p = and_parts (is_name object) (is_name class && list_all is_shown vs) h in
    let q = and_parts (is_name class) (list_all is_shown vs) p.1 in
    let close = lacks-append 10 (arguments_text vs) (41 ∷ []) (lacks-arguments 10 vs is_feed refl q.1) refl in
    lacks-append 10 object _ (lacks-name 10 object refl p.0)
    (lacks-append 10 class (40 ∷ (arguments_text vs ++ 41 ∷ [])) (lacks-name 10 class refl q.0) close)
lacks-occurrence (Called object method vs) h =
    let p = and_parts (is_name object) (is_name method && list_all is_shown vs) h in
    let q = and_parts (is_name method) (list_all is_shown vs) p.1 in
    let close = lacks-append 10 (arguments_text vs) (41 ∷ []) (lacks-arguments 10 vs is_feed refl q.1) refl in
    lacks-append 10 object _ (lacks-name 10 object refl p.0)
    (lacks-append 10 method (40 ∷ (arguments_text vs ++ 41 ∷ [])) (lacks-name 10 method refl q.0) close)
lacks-occurrence (Returned None) h = refl
lacks-occurrence (Returned (Some v)) h = lacks-value 10 v is_feed h
lacks-occurrence (Trapped k) h = lacks-kind k

lacks-event : (e : Event) → is_well_formed e ≡ true → e.call < 2 ^ 64 → lacks 10 (event_text e) ≡ true
lacks-event e h fits =
    let p = and_parts (is_name e.thread) (not (bytes_eq e.thread (codes "all")) && has_names e.occurrence) h in
    let number = lacks-append 10 (decimal e.call) (32 ∷ occurrence_text e.occurrence)
    (lacks-decimal 10 e.call (λ m small same. omega arith) fits)
    (lacks-occurrence e.occurrence (well_named e h)) in
    lacks-append 10 e.thread (46 ∷ (decimal e.call ++ (32 ∷ occurrence_text e.occurrence)))
    (lacks-name 10 e.thread refl p.0) number

-- the first line of a text
pub line_cut : (e : Event) (after : Text) →
    is_well_formed e ≡ true →
    e.call < 2 ^ 64 →
    cut 10 (line e ++ after) ≡ two (event_text e) after
line_cut e after h fits =
    ap (cut 10) (append_assoc (event_text e) (10 ∷ []) after) ∙
    cut_at 10 (event_text e) after (without 10 (event_text e) (lacks-event e h fits))

-- ---- a call's number is no more than the events before it

-- no call has a number over the number of events
abbrev pub bounded : ℕ → List Event → Bool
bounded n = list_all (λ e. nat_le e.call n)

bounded_more : (m n : ℕ) (es : List Event) → m ≤ n → bounded m es ≡ true → bounded n es ≡ true
bounded_more m n [] le h = refl
bounded_more m n (e ∷ es) le h =
    let p = and_parts (nat_le e.call m) (bounded m es) h in
    let b = leb-true e.call m p.0 in
    and_from (nat_le e.call n) (bounded n es) (le-leb e.call n (omega arith)) (bounded_more m n es le p.1)

bounded-append : (n : ℕ) (es fs : List Event) → bounded n es ≡ true → bounded n fs ≡ true → bounded n (es ++ fs) ≡ true
bounded-append n [] fs h k = k
bounded-append n (e ∷ es) fs h k =
    let p = and_parts (nat_le e.call n) (bounded n es) h in
    and_from (nat_le e.call n) (bounded n (es ++ fs)) p.0 (bounded-append n es fs p.1 k)

bounded-reverse : (n : ℕ) (es : List Event) → bounded n es ≡ true → bounded n (reverse es) ≡ true
bounded-reverse n [] h = refl
bounded-reverse n (e ∷ es) h =
    let p = and_parts (nat_le e.call n) (bounded n es) h in
    ap (bounded n) (reverse_onto es e []) ∙ bounded-append n (reverse es) (e ∷ []) (bounded-reverse n es p.1)
    (and_from (nat_le e.call n) true p.0 refl)

bounded-find : (n : ℕ) (p : Event → Bool) (es : List Event) (d : Event) →
    bounded n es ≡ true →
    find p es ≡ Some d →
    d.call ≤ n
bounded-find n p [] d h f = absurd (none_is f)
bounded-find n p (e ∷ es) d h f =
    let q = and_parts (nat_le e.call n) (bounded n es) h in
    go (p e) q.0 (λ k. bounded-find n p es d q.1 k) f
  where
    go : (b : Bool) →
        nat_le e.call n ≡ true →
        (find p es ≡ Some d → d.call ≤ n) →
        cond b (Some e) (find p es) ≡ Some d →
        d.call ≤ n
    go true low next k = subst (λ (x : Event). x.call ≤ n) (some_is k) (leb-true e.call n low)
    go false low next k = next k

follows_bound : (n : ℕ) (o : Option Event) (e : Event) →
    ((d : Event) → o ≡ Some d → d.call ≤ n) →
    may_follow o e ≡ true →
    e.call ≤ n + 1
follows_bound n None e b h =
    let p = and_parts (is_call e.occurrence) (e.call == 1 && is_placed e) h in
    let q = and_parts (e.call == 1) (is_placed e) p.1 in
    let one = eqb-true e.call 1 q.0 in
    omega arith
follows_bound n (Some d) e b h = go (is_call e.occurrence) h
  where
    go : (t : Bool) →
        cond t (is_return d.occurrence && (e.call == d.call + 1 && is_placed e))
        (is_call d.occurrence && (e.call == d.call && not (is_making d.occurrence && has_value e.occurrence))) ≡
        true
        → e.call ≤ n + 1
    go true k =
        let p = and_parts (is_return d.occurrence) (e.call == d.call + 1 && is_placed e) k in
        let q = and_parts (e.call == d.call + 1) (is_placed e) p.1 in
        let one = eqb-true e.call (d.call + 1) q.0 in
        let low = b d refl in
        omega arith
    go false k =
        let p = and_parts (is_call d.occurrence) (e.call == d.call && not
        (is_making d.occurrence && has_value e.occurrence)) k in
        let q = and_parts (e.call == d.call) (not (is_making d.occurrence && has_value e.occurrence)) p.1 in
        let one = eqb-true e.call d.call q.0 in
        let low = b d refl in
        omega arith

-- the number of the next call is at most one over the number of events
pub next_bound : (front : List Event) (e : Event) →
    bounded (length front) front ≡ true →
    is_next front e ≡ true →
    e.call ≤ length front + 1
next_bound front e h k =
    let p = and_parts (is_well_formed e) (may_follow (last_of e.thread front) e) k in
    follows_bound (length front) (last_of e.thread front) e
    (λ d f. bounded-find (length front) (λ x. bytes_eq x.thread e.thread) (reverse front) d
    (bounded-reverse (length front) front h) f) p.1

-- the numbers are bounded after one more event
pub bounded_push : (front : List Event) (e : Event) →
    bounded (length front) front ≡ true →
    is_next front e ≡ true →
    bounded (length (front ++ e ∷ [])) (front ++ e ∷ []) ≡ true
bounded_push front e h k =
    let len = length-append front (e ∷ []) in
    let n = length (front ++ e ∷ []) in
    let low = next_bound front e h k in
    bounded-append n front (e ∷ []) (bounded_more (length front) n front (omega arith) h)
    (and_from (nat_le e.call n) true (le-leb e.call n (omega arith)) refl)

bounded_all : (front es : List Event) →
    bounded (length front) front ≡ true →
    continues front es ≡ true →
    bounded (length (front ++ es)) (front ++ es) ≡ true
bounded_all front [] h k = rw append-nil h
bounded_all front (e ∷ es) h k =
    let p = and_parts (is_next front e) (continues (front ++ e ∷ []) es) k in
    let rest = bounded_all (front ++ e ∷ []) es (bounded_push front e h p.0) p.1 in
    subst (λ (x : List Event). bounded (length x) x ≡ true) (append_assoc front (e ∷ []) es) rest

-- the number of an event that may come next is at most one over the number of events
pub call_bound : (es : List Event) (e : Event) → is_history es ≡ true → is_next es e ≡ true → e.call ≤ length es + 1
call_bound es e h k = next_bound es e (bounded_all [] es refl h) k

-- ---- one event more

continues_push : (front es : List Event) (e : Event) →
    continues front es ≡ true →
    is_next (front ++ es) e ≡ true →
    continues front (es ++ e ∷ []) ≡ true
continues_push front [] e h k = and_from (is_next front e) true (ap (λ x. is_next x e) (sym (append-nil front)) ∙ k)
    refl
continues_push front (d ∷ es) e h k =
    let p = and_parts (is_next front d) (continues (front ++ d ∷ []) es) h in
    and_from (is_next front d) (continues (front ++ d ∷ []) (es ++ e ∷ [])) p.0
    (continues_push (front ++ d ∷ []) es e p.1 (ap (λ x. is_next x e) (append_assoc front (d ∷ []) es) ∙ k))

-- a history with one more event
pub history_push : (es : List Event) (e : Event) →
    is_history es ≡ true →
    is_next es e ≡ true →
    is_history (es ++ e ∷ []) ≡ true
history_push es e h k = continues_push [] es e h k

-- the lines of a history with one more event
pub lines_push : (text rest l after : Text) (es : List Event) (e : Event) →
    text ≡ history_text es ++ rest →
    two l after ≡ cut 10 rest →
    l ≡ event_text e
    → text ≡ history_text (es ++ e ∷ []) ++ after
lines_push text rest l after es e h c is =
    let more : history_text (es ++ e ∷ []) ≡ history_text es ++ line e = flat_map-append line es (e ∷ []) ∙
    ap (λ x. history_text es ++ x) (append-nil (line e)) in
    let split : rest ≡ line e ++ after = cut_parts 10 rest l after c ∙ ap (λ x. x ++ 10 ∷ after) is ∙
    sym (append_assoc (event_text e) (10 ∷ []) after) in
    h ∙ ap (λ x. history_text es ++ x) split ∙ sym (append_assoc (history_text es) (line e) after) ∙
    ap (λ x. x ++ after) (sym more)

-- ---- a place at which no line comes

-- if no event that may come next has its line here, the text breaks here
pub breaks : (text rest : Text) (at : ℕ) (es : List Event) →
    is_history es ≡ true →
    text ≡ history_text es ++ rest →
    at + length rest ≡ length text →
    0 < length rest
    → ((e : Event) (after : Text) → is_next es e ≡ true → rest ≡ line e ++ after → ⊥) → BreaksAt text at
breaks text rest at es h is place some none =
    record {
      events = es;
      rest = rest;
      history = h;
      lines = is;
      place = omega (arith, ap length is, length-append (history_text es) rest);
      goes_on = some;
      none = none;
    }

-- an event that may come next is well formed
pub next_is_well_formed : (es : List Event) (e : Event) → is_next es e ≡ true → is_well_formed e ≡ true
next_is_well_formed es e k = (and_parts (is_well_formed e) (may_follow (last_of e.thread es) e) k).0

-- the first line of the rest is none that may come
pub no_line : (rest l after : Text) (es : List Event) →
    is_history es ≡ true →
    length es < 2 ^ 63 →
    two l after ≡ cut 10 rest
    → ((e : Event) → is_next es e ≡ true → e.call < 2 ^ 64 → l ≡ event_text e → ⊥)
    → (e : Event) (more : Text) → is_next es e ≡ true → rest ≡ line e ++ more → ⊥
no_line rest l after es h small c none e more k is =
    let low = call_bound es e h k in
    let fits : e.call < 2 ^ 64 = omega arith in
    none e k fits (first_of_two l after (event_text e) more (c ∙ ap (cut 10) is ∙
    line_cut e more (next_is_well_formed es e k) fits))

-- the rest has no line at all
pub no_feed : (rest : Text) (es : List Event) → is_history es ≡ true → length es < 2 ^ 63 → None ≡ cut 10 rest
    → (e : Event) (more : Text) → is_next es e ≡ true → rest ≡ line e ++ more → ⊥
no_feed rest es h small c e more k is =
    let low = call_bound es e h k in
    let fits : e.call < 2 ^ 64 = omega arith in
    none_is (c ∙ ap (cut 10) is ∙ line_cut e more (next_is_well_formed es e k) fits)

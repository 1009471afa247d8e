-- What is taken apart is the text of its parts.
use Rattle.std.proofs.Common.{◌≡◌, ◌∙◌, ◌==◌, ◌&&◌, ℕ, Bool, true, false, cond, List, [], ◌∷◌, ◌++◌, length, refl, sym}
use Rattle.std.proofs.Common.{ap, arith, append_assoc, append-nil, codes, eqb-true, Option, Some, None, Result, Ok, Err}
use Rattle.std.specs.Prelude.{IfOk, IfSome, option_and_then}
use Rattle.std.specs.Fmt.{decimal}
use Rattle.std.specs.Str.{bytes_eq}
use Rattle.std.proofs.lemmas.Bool.{and_parts}
use Rattle.std.proofs.lemmas.Slice.Eq.{bytes_eq-Decides}
use Rattle.ls_events.specs.declared.value.Value.{Value}
use Rattle.ls_report.specs.Cut.{cut}
use Rattle.ls_report.specs.Events.{Occurrence as Happened, Text}
use Rattle.ls_report.specs.LineReading.{Calling, Giving, Making, Parts, Returning, Trapping, call_parts, closed_parts}
use Rattle.ls_report.specs.LineReading.{head_parts, made_parts, making_parts, parts_of, parts_text, word_parts}
use Rattle.ls_report.specs.Lines.{arguments_text, event_text, more_arguments, occurrence_text, value_text}
use Rattle.ls_report.specs.Plain.{plain_occurrence}
use Rattle.ls_report.specs.declared.history.Occurrence.{Occurrence as Found}
use Rattle.ls_report.proofs.CutLemmas.{cut_parts, none_is, some_is, Two}

same : (x y : Text) → bytes_eq x y ≡ true → x ≡ y
same x y h = (bytes_eq-Decides x y).0 h

-- a text without bytes
pub empty : (x : Text) → (length x == 0) ≡ true → x ≡ []
empty [] h = refl
empty (b ∷ bs) h = absurd (omega (arith, eqb-true (length (b ∷ bs)) 0 h))

-- ---- a making

made_exact : (object equals new class arguments : Text) (p : Parts) →
    made_parts object equals new class arguments ≡ Some p
    → (equals ≡ codes "=") × (new ≡ codes "new") × (Making object class arguments ≡ p)
made_exact object equals new class arguments p e = go (bytes_eq equals (codes "=") && bytes_eq new (codes "new")) refl e
  where
    go : (t : Bool) →
        (bytes_eq equals (codes "=") && bytes_eq new (codes "new")) ≡ t →
        cond t (Some (Making object class arguments)) None ≡ Some p
        → (equals ≡ codes "=") × (new ≡ codes "new") × (Making object class arguments ≡ p)
    go true is k =
        let q = and_parts (bytes_eq equals (codes "=")) (bytes_eq new (codes "new")) is in
        (same equals (codes "=") q.0, same new (codes "new") q.1, some_is k)
    go false is k = absurd (none_is k)

-- a head is an object, a sign and a method, or the four words of a making
abbrev closed_text : Text → Text → Text
closed_text head arguments = codes "call " ++ (head ++ (40 ∷ (arguments ++ 41 ∷ [])))

making_exact : (arguments head : Text) (p : Parts) →
    making_parts arguments head ≡ Some p →
    closed_text head arguments ≡ parts_text p
making_exact arguments head p e = first (cut 32 head) refl e
  where
    third : (object equals : Text) (bs : Text) (o : Option Two) → cut 32 bs ≡ o
        → head ≡ object ++ (32 ∷ (equals ++ (32 ∷ bs)))
        → option_and_then (λ r. made_parts object equals r.0 r.1 arguments) o ≡ Some p →
        closed_text head arguments ≡ parts_text p
    third object equals bs None is h k = absurd (none_is k)
    third object equals bs (Some r) is h k =
        let m = made_exact object equals r.0 r.1 arguments p k in
        let tail = 40 ∷ (arguments ++ 41 ∷ []) in
        let head_is : head ≡ object ++ (codes " = new " ++ r.1) =
        h ∙ ap (λ bs. object ++ (32 ∷ (equals ++ (32 ∷ bs)))) (cut_parts 32 bs r.0 r.1 (sym is))
        ∙ ap (λ x. object ++ (32 ∷ (x ++ (32 ∷ (r.0 ++ 32 ∷ r.1))))) m.0
        ∙ ap (λ x. object ++ (32 ∷ (codes "=" ++ (32 ∷ (x ++ 32 ∷ r.1))))) m.1 in
        ap (λ x. closed_text x arguments) head_is
        ∙ ap (λ x. codes "call " ++ x) (append_assoc object (codes " = new " ++ r.1) tail)
        ∙ ap parts_text m.2

    second : (object : Text) (bs : Text) (o : Option Two) → cut 32 bs ≡ o → head ≡ object ++ (32 ∷ bs)
        → option_and_then (λ q. option_and_then (λ r. made_parts object q.0 r.0 r.1 arguments) (cut 32 q.1)) o ≡ Some p
        → closed_text head arguments ≡ parts_text p
    second object bs None is h k = absurd (none_is k)
    second object bs (Some q) is h k =
        third object q.0 q.1 (cut 32 q.1) refl (h ∙ ap (λ x. object ++ (32 ∷ x)) (cut_parts 32 bs q.0 q.1 (sym is))) k

    first : (o : Option Two) → cut 32 head ≡ o
        → option_and_then
        (λ p. option_and_then (λ q. option_and_then (λ r. made_parts p.0 q.0 r.0 r.1 arguments) (cut 32 q.1))
        (cut 32 p.1)) o ≡ Some p
        → closed_text head arguments ≡ parts_text p
    first None is k = absurd (none_is k)
    first (Some q) is k = second q.0 q.1 (cut 32 q.1) refl (cut_parts 32 head q.0 q.1 (sym is)) k

-- ---- a call

head_exact : (arguments head : Text) (o : Option Two) (p : Parts) →
    cut 46 head ≡ o →
    head_parts arguments head o ≡ Some p →
    closed_text head arguments ≡ parts_text p
head_exact arguments head None p is e = making_exact arguments head p e
head_exact arguments head (Some q) p is e =
    ap (λ x. closed_text x arguments) (cut_parts 46 head q.0 q.1 (sym is))
    ∙ ap (λ x. codes "call " ++ x) (append_assoc q.0 (46 ∷ q.1) (40 ∷ (arguments ++ 41 ∷ [])))
    ∙ ap parts_text (some_is e)

closed_exact : (head arguments after : Text) (p : Parts) →
    closed_parts head arguments after ≡ Some p →
    (after ≡ []) × (closed_text head arguments ≡ parts_text p)
closed_exact head arguments after p e = go (length after == 0) refl e
  where
    go : (t : Bool) →
        (length after == 0) ≡ t →
        cond t (head_parts arguments head (cut 46 head)) None ≡ Some p →
        (after ≡ []) × (closed_text head arguments ≡ parts_text p)
    go true is k = (empty after is, head_exact arguments head (cut 46 head) p refl k)
    go false is k = absurd (none_is k)

call_exact : (text : Text) (p : Parts) → call_parts text ≡ Some p → codes "call " ++ text ≡ parts_text p
call_exact text p e = first (cut 40 text) refl e
  where
    second : (head bs : Text) (o : Option Two) →
        cut 41 bs ≡ o →
        text ≡ head ++ (40 ∷ bs) →
        option_and_then (λ q. closed_parts head q.0 q.1) o ≡ Some p
        → codes "call " ++ text ≡ parts_text p
    second head bs None is h k = absurd (none_is k)
    second head bs (Some q) is h k =
        let closed = closed_exact head q.0 q.1 p k in
        ap (λ x. codes "call " ++ x)
        (h ∙ ap (λ x. head ++ (40 ∷ x)) (cut_parts 41 bs q.0 q.1 (sym is) ∙ ap (λ x. q.0 ++ 41 ∷ x) closed.0))
        ∙ closed.1

    first : (o : Option Two) →
        cut 40 text ≡ o →
        option_and_then (λ p. option_and_then (λ q. closed_parts p.0 q.0 q.1) (cut 41 p.1)) o ≡ Some p
        → codes "call " ++ text ≡ parts_text p
    first None is k = absurd (none_is k)
    first (Some q) is k = second q.0 q.1 (cut 41 q.1) refl (cut_parts 40 text q.0 q.1 (sym is)) k

-- ---- all occurrences

word_exact : (word rest : Text) (p : Parts) → word_parts word rest ≡ Some p → word ++ (32 ∷ rest) ≡ parts_text p
word_exact word rest p e = on_call (bytes_eq word (codes "call")) refl e
  where
    on_trap : (t : Bool) →
        bytes_eq word (codes "trap") ≡ t →
        cond t (Some (Trapping rest)) None ≡ Some p →
        word ++ (32 ∷ rest) ≡ parts_text p
    on_trap true is k = ap (λ x. x ++ (32 ∷ rest)) (same word (codes "trap") is) ∙ ap parts_text (some_is k)
    on_trap false is k = absurd (none_is k)

    on_return : (t : Bool) →
        bytes_eq word (codes "return") ≡ t →
        cond t (Some (Giving rest)) (cond (bytes_eq word (codes "trap")) (Some (Trapping rest)) None) ≡ Some p
        → word ++ (32 ∷ rest) ≡ parts_text p
    on_return true is k = ap (λ x. x ++ (32 ∷ rest)) (same word (codes "return") is) ∙ ap parts_text (some_is k)
    on_return false is k = on_trap (bytes_eq word (codes "trap")) refl k

    on_call : (t : Bool) → bytes_eq word (codes "call") ≡ t
        → cond t (call_parts rest) (cond (bytes_eq word (codes "return")) (Some (Giving rest))
        (cond (bytes_eq word (codes "trap")) (Some (Trapping rest)) None)) ≡ Some p
        → word ++ (32 ∷ rest) ≡ parts_text p
    on_call true is k = ap (λ x. x ++ (32 ∷ rest)) (same word (codes "call") is) ∙ call_exact rest p k
    on_call false is k = on_return (bytes_eq word (codes "return")) refl k

-- the text is that of the parts into which it is taken apart
pub parts_exact : (text : Text) (p : Parts) → parts_of text ≡ Some p → text ≡ parts_text p
parts_exact text p e = go (bytes_eq text (codes "return")) refl e
  where
    words : (o : Option Two) →
        cut 32 text ≡ o →
        option_and_then (λ p. word_parts p.0 p.1) o ≡ Some p →
        text ≡ parts_text p
    words None is k = absurd (none_is k)
    words (Some q) is k = cut_parts 32 text q.0 q.1 (sym is) ∙ word_exact q.0 q.1 p k

    go : (t : Bool) →
        bytes_eq text (codes "return") ≡ t →
        cond t (Some Returning) (option_and_then (λ p. word_parts p.0 p.1) (cut 32 text)) ≡ Some p →
        text ≡ parts_text p
    go true is k = same text (codes "return") is ∙ ap parts_text (some_is k)
    go false is k = words (cut 32 text) refl k

-- ---- arguments

-- values, with a comma and a space after each
abbrev pub led : List Value → Text
led [] = []
led (v ∷ vs) = value_text v ++ (codes ", " ++ led vs)

-- one more value with its comma
pub led_push : (vs : List Value) (v : Value) (rest : Text) →
    led vs ++ (value_text v ++ (codes ", " ++ rest)) ≡ led (vs ++ v ∷ []) ++ rest
led_push [] v rest = sym (append_assoc (value_text v) (codes ", ") rest)
led_push (u ∷ us) v rest =
    append_assoc (value_text u) (codes ", " ++ led us) (value_text v ++ (codes ", " ++ rest))
    ∙ ap (λ x. value_text u ++ (codes ", " ++ x)) (led_push us v rest)
    ∙ sym (append_assoc (value_text u) (codes ", " ++ led (us ++ v ∷ [])) rest)

more_of : (v : Value) (vs : List Value) → more_arguments (v ∷ vs) ≡ codes ", " ++ arguments_text (v ∷ vs)
more_of v vs = append_assoc (codes ", ") (value_text v) (more_arguments vs)

more_last : (vs : List Value) (v : Value) → more_arguments (vs ++ v ∷ []) ≡ codes ", " ++ arguments_text (vs ++ v ∷ [])
more_last [] v = more_of v []
more_last (u ∷ us) v = more_of u (us ++ v ∷ [])

-- the last value after the others
pub led_last : (vs : List Value) (v : Value) → led vs ++ value_text v ≡ arguments_text (vs ++ v ∷ [])
led_last [] v = sym (append-nil (value_text v))
led_last (u ∷ us) v =
    append_assoc (value_text u) (codes ", " ++ led us) (value_text v)
    ∙ ap (λ x. value_text u ++ (codes ", " ++ x)) (led_last us v)
    ∙ ap (λ x. value_text u ++ x) (sym (more_last us v))

-- one more value is read, at a comma and a space
pub led_more : (text : Text) (vs : List Value) (v : Value) (rest first others gap more : Text) →
    text ≡ led vs ++ rest →
    rest ≡ first ++ 44 ∷ others →
    others ≡ gap ++ 32 ∷ more
    → gap ≡ [] → first ≡ value_text v → text ≡ led (vs ++ v ∷ []) ++ more
led_more text vs v rest first others gap more t r o g f =
    t ∙ ap (λ x. led vs ++ x) (r ∙ ap (λ x. first ++ 44 ∷ x) (o ∙ ap (λ x. x ++ 32 ∷ more) g) ∙
    ap (λ x. x ++ (codes ", " ++ more)) f) ∙ led_push vs v more

-- ---- what is read of a text

-- the occurrence of the parts is that of the text
pub if_exact : {E : Type 0} (text parts : Text) (r : Result (Option Found) E) →
    text ≡ parts →
    IfOk r (λ o. IfSome o (λ f. parts ≡ occurrence_text (plain_occurrence f)))
    → IfOk r (λ o. IfSome o (λ f. text ≡ occurrence_text (plain_occurrence f)))
if_exact text parts (Err e) t h = tt
if_exact text parts (Ok None) t h = tt
if_exact text parts (Ok (Some f)) t h = t ∙ h

-- the same of an occurrence that takes no memory
pub if_some_exact : (text parts : Text) (o : Option Found) →
    text ≡ parts →
    IfSome o (λ f. parts ≡ occurrence_text (plain_occurrence f))
    → IfSome o (λ f. text ≡ occurrence_text (plain_occurrence f))
if_some_exact text parts None t h = tt
if_some_exact text parts (Some f) t h = t ∙ h

-- a line is that of the event of its pieces
pub event_exact : (line thread rest number text : Text) (n : ℕ) (o : Happened) →
    line ≡ thread ++ 46 ∷ rest →
    rest ≡ number ++ 32 ∷ text →
    number ≡ decimal n
    → text ≡ occurrence_text o → line ≡ event_text (record { thread = thread; call = n; occurrence = o })
event_exact line thread rest number text n o l r d t =
    l ∙ ap (λ x. thread ++ 46 ∷ x) (r ∙ ap (λ x. x ++ 32 ∷ text) d ∙ ap (λ x. decimal n ++ 32 ∷ x) t)

-- The last steps of a schedule, once more.
use Rattle.ls_events.specs.Limits.{most_steps}
use Rattle.std.proofs.Common.{◌≡◌, ◌∙◌, ◌+◌, ◌-◌, ◌<◌, ◌≤◌, ℕ, List, [], ◌∷◌, ◌++◌, length, take, drop, get_or, refl}
use Rattle.std.proofs.Common.{sym, ap, arith, append_assoc}
use Rattle.std.proofs.lemmas.List.{drop-append-le, get_or_append_left, get_or-drop, length-append, length-drop, take_at}
use Rattle.std.proofs.lemmas.List.{take_more}
use Rattle.ls_schedule.specs.Reading.{repeated}
use Rattle.ls_schedule.proofs.Steps.{appended, too_many}

-- one of them more
pub pushed_again : (old now new : List ℕ) (from i len t : ℕ) →
    now ≡ old ++ take i (drop from old) →
    i < len →
    from + len ≤ length old →
    t ≡ get_or now (from + i) 0
    → new ≡ now ++ t ∷ [] → new ≡ old ++ take (i + 1) (drop from old)
pushed_again old now new from i len t done lt fits is added =
    let inside : i < length (drop from old) = omega (arith, lt, fits, length-drop from old) in
    let before : from + i < length old = omega (arith, lt, fits) in
    let read : t ≡ get_or (drop from old) i 0 =
    is ∙ ap (λ l. get_or l (from + i) 0) done ∙ get_or_append_left old (take i (drop from old)) 0 (from + i) before ∙
    sym (get_or-drop from old i 0) in
    added ∙ ap (λ l. l ++ t ∷ []) done ∙ append_assoc old (take i (drop from old)) (t ∷ []) ∙
    ap (λ x. old ++ (take i (drop from old) ++ x ∷ [])) read
    ∙ ap (λ l. old ++ l) (sym (take_more (drop from old) i 0 inside))

-- the same steps stand there after more were added
pub same_group : (old more : List ℕ) (from len : ℕ) →
    len ≡ length old - from →
    from ≤ length old →
    take len (drop from (old ++ more)) ≡ drop from old
same_group old more from len is le =
    ap (take len) (drop-append-le from old more le) ∙ take_at (drop from old) more len
    (omega (arith, is, length-drop from old))

pub no_group : (old : List ℕ) (from : ℕ) → length old - from ≡ 0 → length (drop from old) ≡ 0
no_group old from none = omega (arith, none, length-drop from old)

pub appended_again : (old now new : List ℕ) (from len n : ℕ) →
    now ≡ old ++ repeated n (drop from old) →
    len ≡ length old - from →
    from ≤ length old →
    new ≡ now ++ take len (drop from now)
    → new ≡ old ++ repeated (n + 1) (drop from old)
appended_again old now new from len n done is le added =
    let group : take len (drop from now) ≡ drop from old =
    ap (λ l. take len (drop from l)) done ∙ same_group old (repeated n (drop from old)) from len is le in
    appended old (drop from old) now new n done (added ∙ ap (λ l. now ++ l) group)

pub longer_now : (old now more : List ℕ) → now ≡ old ++ more → length old ≤ length now
longer_now old now more done = omega (arith, ap length done, length-append old more)

pub too_many_again : (old now : List ℕ) (from len n count : ℕ) →
    now ≡ old ++ repeated n (drop from old) →
    len ≡ length old - from →
    n < count →
    most_steps < length now + len
    → most_steps < length (old ++ repeated count (drop from old))
too_many_again old now from len n count done is lt over =
    let group : List ℕ = drop from old in
    too_many old group (now ++ group) n count (appended old group now (now ++ group) n done refl) lt
    (omega (arith, over, is, length-append now group, length-drop from old))

-- The parts that lines are made of.
use Rattle.std.specs.Prelude.{ℕ, ◌+◌, ◌==◌, List, [], ◌∷◌, ◌++◌, codes, filter, if◌then◌else◌}
use Rattle.std.specs.Fmt.{decimal}
use Rattle.std.specs.List.{flat_map, range_with_len}
use Rattle.ls_events.specs.declared.value.Value.{Value}
use Rattle.ls_meaning.specs.Values.{truth_of}
use Rattle.ls_report.specs.Events.{Text}

-- a part for each element by its number, the first of which is n
abbrev pub numbered : {A : Type 0} → (ℕ → A → Text) → ℕ → List A → Text
numbered part n [] = []
numbered part n (x ∷ xs) = part n x ++ numbered part (n + 1) xs

-- so many things, as `1 item`, `16 items`
abbrev pub count_text : ℕ → Text → Text
count_text n thing = decimal n ++ (32 ∷ (thing ++ (if n == 1 then [] else codes "s")))

-- the indices of an array's true items
abbrev pub true_places : ℕ → (ℕ → Value) → List ℕ
true_places size items = filter (λ i. truth_of (items i)) (range_with_len 0 size)

abbrev pub more_places : List ℕ → Text
more_places = flat_map (λ i. codes ", " ++ decimal i)

abbrev pub places_text : List ℕ → Text
places_text [] = codes "all false"
places_text (i ∷ is) = codes "true at " ++ (decimal i ++ more_places is)

-- an array, as `16 items, true at 0, 3`
abbrev pub array_text : ℕ → (ℕ → Value) → Text
array_text size items = count_text size (codes "item") ++ (codes ", " ++ places_text (true_places size items))

-- Putting an entry behind the rows, and turning those from its place on by one.
use Rattle.std.proofs.Common.{◌≡◌, ℕ, ◌+◌, ◌-◌, ◌<◌, ◌≤◌, List, [], ◌∷◌, ◌++◌, length, take, drop, set, sym, ap, ◌∙◌, append_assoc, arith, length-append, length-drop, length-take}
use Rattle.std.proofs.lemmas.List.{take_at, drop_at, drop-set-lt, take_more_set, take-append-drop}
use Rattle.table.specs.declared.table.Entry.{Entry}
use Rattle.table.specs.Search.{PutIn}

module _ {X : Type 0} (before : List X) (len at : ℕ) (entry : X) (below : at ≤ len) (fits : len < length before) where
  -- the rows below the place, those from it on, and what lies behind the entry that is put behind them
  abbrev front : List X
  front = take at (take len before)

  abbrev rest : List X
  rest = drop at (take len before)

  abbrev past : List X
  past = drop (len + 1) before

  abbrev behind : List X
  behind = set before len entry

  front_long : length front ≡ at
  front_long = omega (arith, length-take at (take len before), length-take len before)

  rest_long : length rest ≡ len - at
  rest_long = omega (arith, length-drop at (take len before), length-take len before)

  turned_long : length (rest ++ entry ∷ []) ≡ len + 1 - at
  turned_long = omega (arith, rest_long, length-append rest (entry ∷ []))

  behind_is : behind ≡ front ++ ((rest ++ entry ∷ []) ++ past)
  behind_is =
      sym (take-append-drop (len + 1) behind)
      ∙ (ap (λ xs. xs ++ drop (len + 1) behind) (take_more_set before len entry fits)
      ∙ (ap (λ xs. (take len before ++ entry ∷ []) ++ xs) (drop-set-lt (len + 1) before len entry (omega arith))
      ∙ (ap (λ xs. (xs ++ entry ∷ []) ++ past) (sym (take-append-drop at (take len before)))
      ∙ (ap (λ xs. xs ++ past) (append_assoc front rest (entry ∷ []))
      ∙ append_assoc front (rest ++ entry ∷ []) past))))

  from_is : drop at behind ≡ (rest ++ entry ∷ []) ++ past
  from_is = ap (drop at) behind_is ∙ drop_at front ((rest ++ entry ∷ []) ++ past) at front_long

  -- the part that is turned
  pub part_is : take (len + 1 - at) (drop at behind) ≡ rest ++ entry ∷ []
  part_is = ap (take (len + 1 - at)) from_is ∙ take_at (rest ++ entry ∷ []) past (len + 1 - at) turned_long

  turned_is : (m : List X) → m ≡ rest ++ entry ∷ [] → drop (length m - 1) m ++ take (length m - 1) m ≡ entry ∷ rest
  turned_is m e =
      let n : length m - 1 ≡ length rest = omega (arith, ap length e, length-append rest (entry ∷ [])) in
      rw (n, e, drop_at rest (entry ∷ []) (length rest) (λ i. length rest), take_at rest (entry ∷ []) (length rest) (λ i. length rest)) (λ i. entry ∷ rest)

  -- what stands there once it is turned
  pub whole_is : (turned : List X) → turned ≡ drop (length (take (len + 1 - at) (drop at behind)) - 1) (take (len + 1 - at) (drop at behind)) ++ take (length (take (len + 1 - at) (drop at behind)) - 1) (take (len + 1 - at) (drop at behind))
      → take at behind ++ (turned ++ drop (len + 1 - at) (drop at behind)) ≡ (front ++ entry ∷ rest) ++ past
  whole_is turned e =
      ap (λ xs. xs ++ (turned ++ drop (len + 1 - at) (drop at behind))) (ap (take at) behind_is ∙ take_at front ((rest ++ entry ∷ []) ++ past) at front_long)
      ∙ (ap (λ xs. front ++ (xs ++ drop (len + 1 - at) (drop at behind))) (e ∙ turned_is _ part_is)
      ∙ (ap (λ xs. front ++ ((entry ∷ rest) ++ xs)) (ap (drop (len + 1 - at)) from_is ∙ drop_at (rest ++ entry ∷ []) past (len + 1 - at) turned_long)
      ∙ sym (append_assoc front (entry ∷ rest) past)))

  front_and_rest_long : length (front ++ entry ∷ rest) ≡ len + 1
  front_and_rest_long = omega (arith, front_long, rest_long, length-append front (entry ∷ rest))

  pub rows_put : (after : List X) → after ≡ (front ++ entry ∷ rest) ++ past → take (len + 1) after ≡ take at (take len before) ++ (entry ∷ drop at (take len before))
  rows_put after e = ap (take (len + 1)) e ∙ take_at (front ++ entry ∷ rest) past (len + 1) front_and_rest_long

  pub past_put : (after : List X) → after ≡ (front ++ entry ∷ rest) ++ past → drop (len + 1) after ≡ drop (len + 1) before
  past_put after e = ap (drop (len + 1)) e ∙ drop_at (front ++ entry ∷ rest) past (len + 1) front_and_rest_long

pub put_in : {K V : Type 0} (before : List (Entry K V)) (len at : ℕ) (entry : Entry K V) → at ≤ len → len < length before → (after : List (Entry K V))
    → after ≡ (take at (take len before) ++ entry ∷ drop at (take len before)) ++ drop (len + 1) before → PutIn before len at entry after
put_in before len at entry below fits after e = record { moved = rows_put before len at entry below fits after e; past = past_put before len at entry below fits after e }

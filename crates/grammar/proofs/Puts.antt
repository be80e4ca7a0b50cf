-- Elements written one after the other into a list.
use Rattle.std.proofs.Common.{◌≡◌, ℕ, ◌+◌, ◌<◌, ◌≤◌, List, [], ◌∷◌, ◌++◌, length, drop, set, sym, refl, ap, ◌∙◌, arith, length-append}
use lib.Seq.{set_comm, set_at}
use Rattle.std.proofs.lemmas.List.{append_assoc}

-- writes the elements from a place on, and nothing past the end
abbrev pub puts : {A : Type 0} → ℕ → List A → List A → List A
puts at [] m = m
puts at (x ∷ xs) m = puts (at + 1) xs (set m at x)

module _ {A : Type 0} where
  -- a place before those written can as well be written first
  pub set_puts : (i : ℕ) (x : A) (at : ℕ) (xs m : List A) → i < at → set (puts at xs m) i x ≡ puts at xs (set m i x)
  set_puts i x at [] m h = refl
  set_puts i x at (y ∷ ys) m h =
      set_puts i x (at + 1) ys (set m at y) (omega arith)
      ∙ ap (puts (at + 1) ys) (set_comm m at i y x (λ e. omega arith))

  pub puts_append : (at : ℕ) (xs ys m : List A) → puts at (xs ++ ys) m ≡ puts (at + length xs) ys (puts at xs m)
  puts_append at [] ys m = ap (λ (k : ℕ). puts k ys m) (omega arith)
  puts_append at (x ∷ xs) ys m =
      puts_append (at + 1) xs ys (set m at x)
      ∙ ap (λ (k : ℕ). puts k ys (puts (at + 1) xs (set m at x))) (omega arith)

  pub puts_after : (p xs m : List A) → length xs ≤ length m → puts (length p) xs (p ++ m) ≡ p ++ (xs ++ drop (length xs) m)
  puts_after p [] m h = refl
  puts_after p (x ∷ xs) [] h = absurd (omega arith)
  puts_after p (x ∷ xs) (y ∷ m) h =
      ap (puts (length p + 1) xs) (set_at p y m x (length p) refl ∙ sym (append_assoc p (x ∷ []) m))
      ∙ ap (λ (k : ℕ). puts k xs ((p ++ x ∷ []) ++ m)) (omega (arith, length-append p (x ∷ [])))
      ∙ puts_after (p ++ x ∷ []) xs m (omega arith)
      ∙ append_assoc p (x ∷ []) (xs ++ drop (length xs) m)

  -- written from the front into a list that is long enough, the elements stand in its first places
  pub puts_all : (xs m : List A) → length xs ≤ length m → puts 0 xs m ≡ xs ++ drop (length xs) m
  puts_all xs m h = puts_after [] xs m h

-- Writing one run of bytes after another.
use Rattle.std.proofs.Common.{◌≡◌, ℕ, suc, ◌+◌, ◌<◌, ◌≤◌, List, [], ◌∷◌, ◌++◌, length, get_or, take, set, replicate, Ok, Err, Result, sym, refl, ap, ◌∙◌, add-zero, add-suc, suc-add, arith, length-append, append-nil, take_all}
use lib.Seq.{sets}
use Rattle.std.specs.List.{flat_map}
use Rattle.std.proofs.lemmas.List.{take_more, replicate_more}
use Rattle.std.proofs.lemmas.List.Folds.{length-flat_map-take}
use Rattle.std.proofs.lemmas.Grind.{flat_map-append}
use Rattle.writer.specs.declared.output.Output.{Output}
use Rattle.writer.specs.declared.output.Full.{Full}
use Rattle.writer.specs.Puts.{Wrote, NoRoom, Puts}

sets_append : (a b out : List ℕ) (at : ℕ) → sets (sets out at a) (at + length a) b ≡ sets out at (a ++ b)
sets_append [] b out at = ap (λ (k : ℕ). sets out k b) (add-zero at)
sets_append (x ∷ a) b out at =
    ap (λ (k : ℕ). sets (sets (set out at x) (suc at) a) k b) (add-suc at (length a) ∙ sym (suc-add at (length a)))
    ∙ sets_append a b (set out at x) (suc at)

-- one run, and then another from where the first ended
pub wrote_both : {a b : List ℕ} {o p q : Output} → Wrote a o p → Wrote b p q → Wrote (a ++ b) o q
wrote_both {a} {b} {o} {p} u v =
    record {
      lent = v.lent ∙ u.lent;
      room = v.room ∙ u.room;
      moved = simp length-append (omega (arith, u.moved, v.moved));
      put = v.put
          ∙ ap (λ (m : List ℕ). sets m p.at b) u.put
          ∙ ap (λ (k : ℕ). sets (sets o.memory.now o.at a) k b) u.moved
          ∙ sets_append a b o.memory.now o.at;
    }

-- the room ends in what is written after a run, or in the run
pub full_after : {a : List ℕ} {o p : Output} (b : List ℕ) → Wrote a o p → NoRoom b p → NoRoom (a ++ b) o
full_after {a} b u h = record { past = simp length-append (omega (arith, u.moved, u.room, h.past)) }

pub full_before : {a : List ℕ} {o : Output} (b : List ℕ) → NoRoom a o → NoRoom (a ++ b) o
full_before {a} b h = record { past = simp length-append (omega (arith, h.past)) }

-- a run, and then one that is written or does not fit
pub puts_after : {a : List ℕ} {o p : Output} (b : List ℕ) (q : Output) (r : Result (Unit {0}) Full) → Wrote a o p → Puts b p q r → Puts (a ++ b) o q r
puts_after b q (Ok _) u v = wrote_both u v
puts_after b q (Err _) u v = full_after b u v

-- What is written for each of some items, one after the other.
module _ {X : Type 0} (f : X → List ℕ) (xs : List X) where
  -- the items so far, and one more
  pub wrote_more : {o p q : Output} (i : ℕ) (d : X) → i < length xs → Wrote (flat_map f (take i xs)) o p → Wrote (f (get_or xs i d)) p q → Wrote (flat_map f (take (i + 1) xs)) o q
  wrote_more i d h u v =
      rw (take_more xs i d h, flat_map-append f (take i xs) (get_or xs i d ∷ []), append-nil (f (get_or xs i d))) (wrote_both u v)

  -- the room ends at an item
  pub full_more : {o p : Output} (i : ℕ) (d : X) → i < length xs → Wrote (flat_map f (take i xs)) o p → NoRoom (f (get_or xs i d)) p → NoRoom (flat_map f xs) o
  full_more i d lt u h = record { past = omega (arith, u.moved, u.room, h.past, length-flat_map-take f xs i d lt) }

  -- all items
  pub wrote_all : {o p : Output} (i : ℕ) → length xs ≤ i → Wrote (flat_map f (take i xs)) o p → Wrote (flat_map f xs) o p
  wrote_all i h u = rw (take_all i xs h) at u

-- bytes, each written as itself
abbrev pub itself : ℕ → List ℕ
itself b = b ∷ []

pub by_itself : (s : List ℕ) → s ≡ flat_map itself s
by_itself [] = refl
by_itself (b ∷ s) = ap (λ (x : List ℕ). b ∷ x) (by_itself s)

-- one more blank
pub wrote_blank : {o p q : Output} (i : ℕ) → Wrote (replicate i 32) o p → Wrote (32 ∷ []) p q → Wrote (replicate (i + 1) 32) o q
wrote_blank i u v = rw (← replicate_more {X = ℕ} i 32) (wrote_both u v)

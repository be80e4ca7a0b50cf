-- A page comes to one outcome, and which it is where the rows do not form a lawful tree.
use Rattle.std.proofs.Common.{◌≡◌, ℕ, ◌+◌, Bool, true, false, List, [], ◌∷◌, ◌++◌, Ok, Err, Result, sym, refl, ap, ◌∙◌, subst, inl, inr, arith}
use Rattle.names.specs.Names.{long}
use Rattle.names.specs.Texts.{foreign}
use Rattle.pages.specs.declared.refusal.Refusal.{Refusal}
use Rattle.pages.specs.Trees.{Tree, Node, nodes}
use Rattle.pages.specs.Shape.{Lawful, Verdict, lawful, misshapen, deep, Judged, whole}
use Rattle.pages.specs.Refusals.{Checked}
use Rattle.pages.specs.Refusals as refusals
use Rattle.positions.specs.Roles.{Setting, counted, counted_at}
use Rattle.positions.specs.Walks.{Position, positions}
use Rattle.gather.specs.declared.collection.PropertyMangleCollection.{PropertyMangleCollection}
use Rattle.gather.specs.Faults.{AllRight, FirstWrong, Right, Wrong, too_long, not_ascii, long_number}
use Rattle.gather.specs.Gathering.{Size, HasRoom, Outcome, misshapen_at, deep_at, wrong_name, gathered, ComesTo, is_misshapen, is_deep, is_wrong, is_overfull, is_gathered, answer, Cleared, Left}

-- what is both true and false
both_ways : (b : Bool) → b ≡ true → b ≡ false → ⊥
both_ways b t f = let z : ◌≡◌ {A = ℕ} 0 1 = cc in omega arith

-- a name that is right is not wrong
not_wrong : (node : ℕ) (name : List ℕ) (r : Refusal) → Right name → Wrong node name r → ⊥
not_wrong node name r h (too_long l) = both_ways (long name) l h.not_long
not_wrong node name r h (not_ascii l f) = both_ways (foreign name) f h.not_foreign
not_wrong node name r h (long_number l f n) = h.no_long_number n

-- a name is wrong in one way
one_wrong_name : (node : ℕ) (name : List ℕ) (r q : Refusal) → Wrong node name r → Wrong node name q → r ≡ q
one_wrong_name node name r q (too_long a) (too_long b) = refl
one_wrong_name node name r q (too_long a) (not_ascii b c) = absurd (both_ways (long name) a b)
one_wrong_name node name r q (too_long a) (long_number b c d) = absurd (both_ways (long name) a b)
one_wrong_name node name r q (not_ascii a e) (too_long b) = absurd (both_ways (long name) b a)
one_wrong_name node name r q (not_ascii a e) (not_ascii b c) = refl
one_wrong_name node name r q (not_ascii a e) (long_number b c d) = absurd (both_ways (foreign name) e c)
one_wrong_name node name r q (long_number a e f) (too_long b) = absurd (both_ways (long name) b a)
one_wrong_name node name r q (long_number a e f) (not_ascii b c) = absurd (both_ways (foreign name) c e)
one_wrong_name node name r q (long_number a e f) (long_number b c d) = refl

-- of names that are all right, those in front and those after them are
right_front : (ns ms : List (List ℕ)) → AllRight (ns ++ ms) → AllRight ns
right_front [] ms h = tt
right_front (n ∷ ns) ms h = (h.0, right_front ns ms h.1)

right_back : (ns ms : List (List ℕ)) → AllRight (ns ++ ms) → AllRight ms
right_back [] ms h = h
right_back (n ∷ ns) ms h = right_back ns ms h.1

-- where all names are right and there is one, it is right
right_one : (names : List (List ℕ)) (name : List ℕ) → names ≡ name ∷ [] → AllRight names → Right name
right_one names name e h = (subst AllRight e h).0

-- two names that are each the only one are one
same_name : (names : List (List ℕ)) (name other : List ℕ) → names ≡ name ∷ [] → names ≡ other ∷ [] → name ≡ other
same_name names name other d e = cc

-- where a name is wrong, not all are right
pub wrong_or_right : (s : Setting) (at : ℕ) (ps : List Position) (r : Refusal) → FirstWrong s at ps r → AllRight (counted s ps) → ⊥
wrong_or_right s at [] r h k = h
wrong_or_right s at (p ∷ ps) r (inl h) k =
    not_wrong at h.0 r (right_one (counted_at s p) h.0 h.1 (right_front (counted_at s p) (counted s ps) k)) h.2
wrong_or_right s at (p ∷ ps) r (inr h) k = wrong_or_right s (at + 1) ps r h.1 (right_back (counted_at s p) (counted s ps) k)

-- the first wrong name is refused in one way
pub one_wrong : (s : Setting) (at : ℕ) (ps : List Position) (r q : Refusal) → FirstWrong s at ps r → FirstWrong s at ps q → r ≡ q
one_wrong s at [] r q h k = absurd h
one_wrong s at (p ∷ ps) r q (inl h) (inl k) =
    one_wrong_name at k.0 r q
    (subst (λ (name : List ℕ). Wrong at name r) (same_name (counted_at s p) h.0 k.0 h.1 k.1) h.2) k.2
one_wrong s at (p ∷ ps) r q (inl h) (inr k) = absurd (not_wrong at h.0 r (right_one (counted_at s p) h.0 h.1 k.0) h.2)
one_wrong s at (p ∷ ps) r q (inr h) (inl k) = absurd (not_wrong at k.0 q (right_one (counted_at s p) k.0 k.1 h.0) k.2)
one_wrong s at (p ∷ ps) r q (inr h) (inr k) = one_wrong s (at + 1) ps r q h.1 k.1

misshapen_deep : (m n : ℕ) → misshapen m ≡ deep n → ⊥
misshapen_deep m n e = let z : ◌≡◌ {A = ℕ} 0 1 = cc in omega arith

misshapen_lawful : (m : ℕ) → misshapen m ≡ lawful → ⊥
misshapen_lawful m e = let z : ◌≡◌ {A = ℕ} 0 1 = cc in omega arith

deep_lawful : (m : ℕ) → deep m ≡ lawful → ⊥
deep_lawful m e = let z : ◌≡◌ {A = ℕ} 0 1 = cc in omega arith

same_misshapen : (m n : ℕ) → misshapen m ≡ misshapen n → misshapen_at m ≡ misshapen_at n
same_misshapen m n e = let g : m ≡ n = cc in ap misshapen_at g

same_deep : (m n : ℕ) → deep m ≡ deep n → deep_at m ≡ deep_at n
same_deep m n e = let g : m ≡ n = cc in ap deep_at g

module _ (s : Setting) (ns : List Node) (z : Size) (same : (v w : Verdict) → Judged ns v → Judged ns w → v ≡ w)
    (one_tree : (t u : Tree) → ns ≡ nodes t → ns ≡ nodes u → t ≡ u) where
  -- what is said of one tree with these nodes is said of the other
  wrong_there : (t u : Tree) (r : Refusal) → ns ≡ nodes t → ns ≡ nodes u → FirstWrong s 0 (positions t) r → FirstWrong s 0 (positions u) r
  wrong_there t u r d e h = subst (λ (x : Tree). FirstWrong s 0 (positions x) r) (one_tree t u d e) h

  -- a name that is wrong leaves no outcome where all are right
  no_wrong : (t u : Tree) (r : Refusal) → ns ≡ nodes t → ns ≡ nodes u → FirstWrong s 0 (positions t) r → AllRight (counted s (positions u)) → ⊥
  no_wrong t u r d e h k = wrong_or_right s 0 (positions u) r (wrong_there t u r d e h) k

  both_outcomes : {o p : Outcome} → ComesTo s ns z o → ComesTo s ns z p → o ≡ p
  both_outcomes (is_misshapen m j) (is_misshapen n k) = same_misshapen m n (same _ _ j k)
  both_outcomes (is_misshapen m j) (is_deep n k) = absurd (misshapen_deep m n (same _ _ j k))
  both_outcomes (is_misshapen m j) (is_wrong u q e l h) = absurd (misshapen_lawful m (same _ _ j (whole u l e)))
  both_outcomes (is_misshapen m j) (is_overfull u e l h x) = absurd (misshapen_lawful m (same _ _ j (whole u l e)))
  both_outcomes (is_misshapen m j) (is_gathered u e l h x) = absurd (misshapen_lawful m (same _ _ j (whole u l e)))
  both_outcomes (is_deep m j) (is_misshapen n k) = absurd (misshapen_deep n m (same _ _ k j))
  both_outcomes (is_deep m j) (is_deep n k) = same_deep m n (same _ _ j k)
  both_outcomes (is_deep m j) (is_wrong u q e l h) = absurd (deep_lawful m (same _ _ j (whole u l e)))
  both_outcomes (is_deep m j) (is_overfull u e l h x) = absurd (deep_lawful m (same _ _ j (whole u l e)))
  both_outcomes (is_deep m j) (is_gathered u e l h x) = absurd (deep_lawful m (same _ _ j (whole u l e)))
  both_outcomes (is_wrong t r d i g) (is_misshapen n k) = absurd (misshapen_lawful n (same _ _ k (whole t i d)))
  both_outcomes (is_wrong t r d i g) (is_deep n k) = absurd (deep_lawful n (same _ _ k (whole t i d)))
  both_outcomes (is_wrong t r d i g) (is_wrong u q e l h) = ap wrong_name (one_wrong s 0 (positions u) r q (wrong_there t u r d e g) h)
  both_outcomes (is_wrong t r d i g) (is_overfull u e l h x) = absurd (no_wrong t u r d e g h)
  both_outcomes (is_wrong t r d i g) (is_gathered u e l h x) = absurd (no_wrong t u r d e g h)
  both_outcomes (is_overfull t d i g y) (is_misshapen n k) = absurd (misshapen_lawful n (same _ _ k (whole t i d)))
  both_outcomes (is_overfull t d i g y) (is_deep n k) = absurd (deep_lawful n (same _ _ k (whole t i d)))
  both_outcomes (is_overfull t d i g y) (is_wrong u q e l h) = absurd (no_wrong u t q e d h g)
  both_outcomes (is_overfull t d i g y) (is_overfull u e l h x) = refl
  both_outcomes (is_overfull t d i g y) (is_gathered u e l h x) = absurd (y (subst (λ (v : Tree). HasRoom s v z) (one_tree u t e d) x))
  both_outcomes (is_gathered t d i g y) (is_misshapen n k) = absurd (misshapen_lawful n (same _ _ k (whole t i d)))
  both_outcomes (is_gathered t d i g y) (is_deep n k) = absurd (deep_lawful n (same _ _ k (whole t i d)))
  both_outcomes (is_gathered t d i g y) (is_wrong u q e l h) = absurd (no_wrong u t q e d h g)
  both_outcomes (is_gathered t d i g y) (is_overfull u e l h x) = absurd (x (subst (λ (v : Tree). HasRoom s v z) (one_tree t u d e) y))
  both_outcomes (is_gathered t d i g y) (is_gathered u e l h x) = ap gathered (one_tree t u d e)

-- a page of which there is one verdict and one tree comes to one outcome
pub one_outcome : (s : Setting) (ns : List Node) (z : Size) → ((v w : Verdict) → Judged ns v → Judged ns w → v ≡ w)
    → ((t u : Tree) → ns ≡ nodes t → ns ≡ nodes u → t ≡ u) → (o p : Outcome) → ComesTo s ns z o → ComesTo s ns z p → o ≡ p
one_outcome s ns z same one_tree o p c d = both_outcomes s ns z same one_tree c d

-- rows that were checked have one verdict
pub checked_once : (ns : List Node) (r : Result (Unit {0}) Refusal) → Checked ns r → (v w : Verdict) → Judged ns v → Judged ns w → v ≡ w
checked_once ns r ch v w j k = ch.only v j ∙ sym (ch.only w k)

-- rows that do not pass the check are misshapen or deep, as it answers; the tables are then to be empty
pub refused_shape : (s : Setting) (ns : List Node) (z : Size) (refusal : Refusal) → Checked ns (Err refusal)
    → (o : Outcome) × ComesTo s ns z o × (Err refusal ≡ answer o) × ((before after : PropertyMangleCollection) → Cleared before after → Left s o before after)
refused_shape s ns z refusal ch = go ch.verdict ch.judged ch.answered
  where
    go : (v : Verdict) → Judged ns v → Err refusal ≡ refusals.answer v
        → (o : Outcome) × ComesTo s ns z o × (Err refusal ≡ answer o) × ((before after : PropertyMangleCollection) → Cleared before after → Left s o before after)
    go lawful j e = let y : ◌≡◌ {A = ℕ} 0 1 = cc in absurd (omega arith)
    go (misshapen n) j e = (misshapen_at n, is_misshapen n j, e, λ before after h. h)
    go (deep n) j e = (deep_at n, is_deep n j, e, λ before after h. h)

judged_lawful : {ns : List Node} → Judged ns lawful → (t : Tree) × (ns ≡ nodes t) × Lawful t
judged_lawful (whole t l e) = (t, e, l)

-- rows that pass the check show a lawful tree
pub lawful_shape : (ns : List Node) → Checked ns (Ok tt) → (t : Tree) × (ns ≡ nodes t) × Lawful t
lawful_shape ns ch = go ch.verdict ch.judged ch.answered
  where
    go : (v : Verdict) → Judged ns v → Ok tt ≡ refusals.answer v → (t : Tree) × (ns ≡ nodes t) × Lawful t
    go lawful j e = judged_lawful j
    go (misshapen n) j e = let y : ◌≡◌ {A = ℕ} 0 1 = cc in absurd (omega arith)
    go (deep n) j e = let y : ◌≡◌ {A = ℕ} 0 1 = cc in absurd (omega arith)

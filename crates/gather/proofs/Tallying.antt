-- How tables fill.
use Rattle.std.proofs.Common.{◌≡◌, ℕ, ◌+◌, ◌-◌, ◌<◌, ◌≤◌, min, Bool, true, false, cond, not, ◌&&◌, ◌⊎◌, List, [], ◌∷◌, ◌++◌, length, drop, Some, None, Option, Ok, Err, Result, sym, refl, ap, ◌∙◌, subst, inl, inr, ⊎_elim, arith, drop-drop}
use Rattle.std.proofs.lemmas.Bool.{cases_Bool, cond-true, true≢false}
use Rattle.names.specs.declared.name.Name.{Name}
use Rattle.names.specs.Names.{before}
use Rattle.std.specs.Result.{OnErr, is_err}
use Rattle.table.specs.declared.table.Entry.{Entry}
use Rattle.table.specs.declared.table.Full.{Full}
use Rattle.table.specs.declared.table.Table.{Table}
use Rattle.table.specs.Calls.{Refused, grown as grown_rows}
use Rattle.tally.specs.Calls.{Added, Adds}
use Rattle.tally.proofs.Together.{length_inserted as inserted_length}
use Rattle.table.specs.Maps.{equivalent, inserted, lookup}
use Rattle.table.specs.Rows.{memory, rows, SameMemory, Sound}
use Rattle.table.proofs.Standing.{sound_length}
use Rattle.tally.specs.Sums.{summed}
use Rattle.gather.proofs.Naming.{names_order}
use Rattle.gather.specs.Filling.{Fills, room, tallied}

-- a row more or none
module _ {K V : Type 0} (less : K → K → Bool) (key : K) (value : V) where
  pub inserted_grows : (rs : List (Entry K V)) → length rs ≤ length (inserted less key value rs)
  inserted_grows [] = omega arith
  inserted_grows (e ∷ es) = elim (cases_Bool (less e.key key)) [
    | inl t ↦ rw t (let ih = inserted_grows es in omega arith)
    | inr f ↦ rw f (elim (cases_Bool (less key e.key)) [ inl t ↦ rw t (omega arith) | inr u ↦ rw u (omega arith) ])
  ]

  pub inserted_new_length : (rs : List (Entry K V)) → lookup less key rs ≡ None → length (inserted less key value rs) ≡ length rs + 1
  inserted_new_length [] h = refl
  inserted_new_length (e ∷ es) h = elim (cases_Bool (less e.key key)) [
    | inl t ↦ rw t (let ih = inserted_new_length es (later (equivalent less key e.key) (lookup less key es) e.value h) in omega arith)
    | inr f ↦ rw f (elim (cases_Bool (less key e.key)) [
      | inl t ↦ rw t (omega arith)
      | inr u ↦ let same : (not (less key e.key) && not (less e.key key)) ≡ true = rw (u, f) refl in
          let some : Some e.value ≡ None = sym (cond-true _ _ _ same) ∙ h in
          absurd (let z : ◌≡◌ {A = ℕ} 0 1 = cc in omega arith)
    ])
  ]
    where
      later : (b : Bool) (o : Option V) (v : V) → cond b (Some v) o ≡ None → o ≡ None
      later true o v h = absurd (let z : ◌≡◌ {A = ℕ} 0 1 = cc in omega arith)
      later false o v h = h

module _ {V : Type 0} (sum : V → V → V) (value : V) where
  pub tallied_append : (ns ms : List Name) (rs : List (Entry Name V)) → tallied sum value (ns ++ ms) rs ≡ tallied sum value ms (tallied sum value ns rs)
  tallied_append [] ms rs = refl
  tallied_append (n ∷ ns) ms rs = tallied_append ns ms (inserted before n (summed sum (lookup before n rs) value) rs)

  pub tallied_grows : (ns : List Name) (rs : List (Entry Name V)) → length rs ≤ length (tallied sum value ns rs)
  tallied_grows [] rs = omega arith
  tallied_grows (n ∷ ns) rs =
      omega (arith, inserted_grows before n (summed sum (lookup before n rs) value) rs, tallied_grows ns (inserted before n (summed sum (lookup before n rs) value) rs))

  pub fills_none : (t : Table Name V) (full : Bool) → Sound before t → Fills sum value [] t t full full
  fills_none t full s =
      record {
        kept_memory = record { lent = refl; room = refl; past = refl };
        grown = omega arith;
        sound = s;
        on = λ e. (e, refl);
        fitting = λ e h. h;
        out = λ e. inl e;
      }

  -- one more is added
  fills_added : (name : Name) (t t' : Table Name V) (limit : ℕ) → limit ≡ 4096 → SameMemory t t' → t.len ≤ t'.len → Sound before t → Added before sum limit name value t t' → (full : Bool) → Fills sum value (name ∷ []) t t' full full
  fills_added name t t' limit e same grows s a full =
      record {
        kept_memory = same;
        grown = grows;
        sound = a.sound;
        on = λ h. (h, a.now_rows);
        fitting = λ _ h. room_for (lookup before name (rows t)) refl h;
        out = λ h. inl h;
      }
    where
      rows_now : length (rows t') ≡ grown_rows (lookup before name (rows t)) (length (rows t))
      rows_now = ap length a.now_rows ∙ inserted_length before names_order name (summed sum (lookup before name (rows t)) value) (rows t) s.ascending

      room_for : (o : Option V) → lookup before name (rows t) ≡ o → length (rows t) ≤ room t → length (rows t') ≤ room t
      room_for None is h = omega (arith, rows_now ∙ ap (λ p. grown_rows p (length (rows t))) is, a.had_room is, sound_length before t s)
      room_for (Some old) is h = omega (arith, rows_now ∙ ap (λ p. grown_rows p (length (rows t))) is)

  -- there is no row left for one more
  fills_full : (name : Name) (t t' : Table Name V) (limit : ℕ) → limit ≡ 4096 → t' ≡ t → Sound before t → Refused before limit name t → (full : Bool) → Fills sum value (name ∷ []) t t' full true
  fills_full name t t' limit e same s r full =
      record {
        kept_memory = subst (λ u. SameMemory t u) (sym same) (record { lent = refl; room = refl; past = refl });
        grown = subst (λ u. t.len ≤ u.len) (sym same) (omega arith);
        sound = subst (λ u. Sound before u) (sym same) s;
        on = λ e. absurd (let z : ◌≡◌ {A = ℕ} 0 1 = cc in omega arith);
        fitting = λ e. absurd (let z : ◌≡◌ {A = ℕ} 0 1 = cc in omega arith);
        out = λ e. inr (too_many e);
      }
    where
      too_many : true ≡ true → room t < length (tallied sum value (name ∷ []) (rows t))
      too_many _ =
          omega (arith, inserted_new_length before name (summed sum (lookup before name (rows t)) value) (rows t) r.new_key, sound_length before t s, r.no_room)

  -- one is added, or there is no row left for it
  pub fills_one : (name : Name) (t t' : Table Name V) (limit : ℕ) → limit ≡ 4096 → Sound before t → SameMemory t t' → t.len ≤ t'.len → (r : Result (Unit {0}) Full) → OnErr r (t' ≡ t) → Adds before sum limit name value t t' r
      → (full full' : Bool) → full ≡ false → full' ≡ is_err r → Fills sum value (name ∷ []) t t' full full'
  fills_one name t t' limit e s same grows (Ok done) k a full full' free is = rw (free, is) (fills_added name t t' limit e same grows s a false)
  fills_one name t t' limit e s same grows (Err f) k a full full' free is = rw is (fills_full name t t' limit e k s a full)

  -- none is added any more
  pub fills_past : (names : List Name) (t : Table Name V) (full : Bool) → Sound before t → full ≡ true → Fills sum value names t t full full
  fills_past names t full s is =
      record {
        kept_memory = record { lent = refl; room = refl; past = refl };
        grown = omega arith;
        sound = s;
        on = λ e. absurd (true≢false (sym is ∙ e));
        fitting = λ e h. h;
        out = λ e. inl e;
      }

  -- first some, then others
  pub fills_both : {ns ms : List Name} {t m t' : Table Name V} {full mid full' : Bool} → Fills sum value ns t m full mid → Fills sum value ms m t' mid full' → Fills sum value (ns ++ ms) t t' full full'
  fills_both {ns} {ms} {t} {m} {t'} {full} {mid} {full'} f g =
      record {
        kept_memory = record {
          lent = g.kept_memory.lent ∙ f.kept_memory.lent;
          room = g.kept_memory.room ∙ f.kept_memory.room;
          past = g.kept_memory.past ∙ past_later (memory m) (memory t) m.len t'.len g.grown f.kept_memory.past;
        };
        grown = omega (arith, f.grown, g.grown);
        sound = g.sound;
        on = λ e. ((f.on (g.on e).0).0, (g.on e).1 ∙ (ap (tallied sum value ms) (f.on (g.on e).0).1 ∙ sym (tallied_append ns ms (rows t))));
        fitting = λ e h. subst (λ n. length (rows t') ≤ n) same_room (g.fitting e (subst (λ n. length (rows m) ≤ n) (sym same_room) (f.fitting (g.on e).0 h)));
        out = λ e. by_mid (cases_Bool mid) e;
      }
    where
      past_later : (xs ys : List (Entry Name V)) (a b : ℕ) → a ≤ b → drop a xs ≡ drop a ys → drop b xs ≡ drop b ys
      past_later xs ys a b h e =
          let split : a + (b - a) ≡ b = omega arith in
          ap (λ n. drop n xs) (sym split) ∙ (sym (drop-drop (b - a) a xs) ∙ (ap (drop (b - a)) e ∙ (drop-drop (b - a) a ys ∙ ap (λ n. drop n ys) split)))

      more_too : room t < length (tallied sum value ns (rows t)) → room t < length (tallied sum value (ns ++ ms) (rows t))
      more_too h = omega (arith, ap length (tallied_append ns ms (rows t)), tallied_grows ms (tallied sum value ns (rows t)))

      from_first : mid ≡ true → (full ≡ true) ⊎ (room t < length (tallied sum value (ns ++ ms) (rows t)))
      from_first e = ⊎_elim (λ h. inl h) (λ h. inr (more_too h)) (f.out e)

      same_room : room m ≡ room t
      same_room = ap (λ n. min 4096 n) f.kept_memory.room

      by_mid : (mid ≡ true) ⊎ (mid ≡ false) → full' ≡ true → (full ≡ true) ⊎ (room t < length (tallied sum value (ns ++ ms) (rows t)))
      by_mid (inl e) h = from_first e
      by_mid (inr e) h =
          ⊎_elim from_first
          (λ lack. inr (omega (arith, same_room, lack, ap length (ap (tallied sum value ms) (f.on e).1 ∙ sym (tallied_append ns ms (rows t))))))
          (g.out h)

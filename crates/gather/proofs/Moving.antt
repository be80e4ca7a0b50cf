-- Names counted and texts occupied, some after others.
use Rattle.std.proofs.Common.{◌≡◌, ℕ, leb, List, [], ◌++◌, map, length, sym, ap, ◌∙◌, subst}
use Rattle.std.proofs.lemmas.List.Elements.{filter-append}
use Rattle.std.proofs.lemmas.List.{append-nil, map-append}
use Rattle.names.specs.declared.name.Name.{Name}
use Rattle.names.specs.Names.{name_of}
use Rattle.table.specs.declared.table.Table.{Table}
use Rattle.table.specs.Rows.{SameMemory}
use Rattle.gather.specs.declared.collection.PropertyMangleCollection.{PropertyMangleCollection}
use Rattle.gather.specs.declared.note.Shortfall.{Shortfall}
use Rattle.gather.specs.Counting.{kept}
use Rattle.tally.specs.Counts.{count_sum}
use Rattle.gather.specs.Filling.{BothLent, Fills, Lent, Moves, Sounds, unit_sum}
use Rattle.gather.proofs.Tallying.{fills_both, fills_none}

names_append : (ns ms : List (List ℕ)) → map name_of ns ++ map name_of ms ≡ map name_of (ns ++ ms)
names_append ns ms = sym (map-append name_of ns ms)

texts_append : (ts us : List (List ℕ)) → map name_of (kept ts) ++ map name_of (kept us) ≡ map name_of (kept (ts ++ us))
texts_append ts us = names_append (kept ts) (kept us) ∙ ap (map name_of) (sym (filter-append (λ t. leb (length t) 255) ts us))

pub moves_none : (c : PropertyMangleCollection) (l : Shortfall) → Sounds c → Moves [] [] c c l l
moves_none c l s =
    record { counting = fills_none count_sum 1 c.frequencies l.names s.names; occupying = fills_none unit_sum tt c.occupied l.texts s.texts }

pub moves_both : {ns ms ts us : List (List ℕ)} {c m c' : PropertyMangleCollection} {l k l' : Shortfall} → Moves ns ts c m l k → Moves ms us m c' k l' → Moves (ns ++ ms) (ts ++ us) c c' l l'
moves_both {ns} {ms} {ts} {us} {c} {m} {c'} {l} {k} {l'} f g =
    record {
      counting = subst (λ names. Fills count_sum 1 names c.frequencies c'.frequencies l.names l'.names) (names_append ns ms) (fills_both count_sum 1 f.counting g.counting);
      occupying = subst (λ names. Fills unit_sum tt names c.occupied c'.occupied l.texts l'.texts) (texts_append ts us) (fills_both unit_sum tt f.occupying g.occupying);
    }

pub moves_then : {ns ts : List (List ℕ)} {c m c' : PropertyMangleCollection} {l k l' : Shortfall} → Moves ns [] c m l k → Moves [] ts m c' k l' → Moves ns ts c c' l l'
moves_then {ns} {ts} {c} {m} {c'} {l} {k} {l'} f g = subst (λ names. Moves names ts c c' l l') (append-nil ns) (moves_both f g)

lent_from : {V : Type 0} {t t' : Table Name V} → SameMemory t t' → Lent t t'
lent_from s = record { lent = s.lent; as_long = s.room }

pub moves_lent : {ns ts : List (List ℕ)} {c c' : PropertyMangleCollection} {l l' : Shortfall} → Moves ns ts c c' l l' → BothLent c c'
moves_lent m = record { names = lent_from m.counting.kept_memory; texts = lent_from m.occupying.kept_memory }

lent_then : {V : Type 0} {t m t' : Table Name V} → Lent t m → Lent m t' → Lent t t'
lent_then f g = record { lent = g.lent ∙ f.lent; as_long = g.as_long ∙ f.as_long }

pub both_lent_then : {c m c' : PropertyMangleCollection} → BothLent c m → BothLent m c' → BothLent c c'
both_lent_then f g = record { names = lent_then f.names g.names; texts = lent_then f.texts g.texts }

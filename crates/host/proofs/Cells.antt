-- One record of a lent table in memory: it is taken out of the table, and it or another is put back, also as steps
-- of a walk. At any `Logic`.
use Prim.Native.Nat.{ℕ, ◌+◌, ◌<◌}
use mathlib.Core.List.{List, [], ◌∷◌}
use mathlib.Core.Path.{refl, sym, ◌∙◌, subst}
use lib.ListN.{length, set, length-set}
use seplogic.Ra.Ura.{Ura}
use base.Fraction.{full_share}
use mir.Val.{Val}
use base.Logic.{SProp, ent, sep, wand, ex, id⊢, apply∗}
use base.Fml.{fsep}
use types.Logic.{Logic, sem}
use types.Kit.{Goal, Item, Seq, Step, step, ‵, raw, ◌⊛◌, some, ◌$◌, !, qed, move, use1, use2, split, pick, fsplit, fjoin, feq_l, feq_i, fpack, frame, assume, done}
use types.Share.{parts, arr_parts}
use denote.Array.{Array}
use denote.ArrayMemory.{Array-apart, Array-whole}
use denote.Index.{place, others, takes, puts}
use denote.Laws.{Is, shows}
use denote.Steps.{facts, owned}
use denote.Struct.Steps.{spelt}
use denote.Struct.Laws as LL
use denote.Struct.Loose.{loosens}
use denote.Memory.{cell_at, part_at, part_of, mem, shares}
use denote.RattleType.{RattleType}
use borrow.Struct.Behind.{put_at_lem}
use borrow.Struct.Way.{Cut}
use Rattle.border.specs.Kept.{empty, record_at, put_record}
use Rattle.border.specs.declared.kept.Kept.{Kept}
use Rattle.border.specs.declared.kept.Record.{Record}
use Rattle.border.specs.contracts.kept.Kept as K
use Rattle.border.proofs.kept.Kept.TheLaws as K'
use Rattle.border.specs.contracts.kept.Record as R
use Rattle.border.proofs.kept.Record.TheLaws as R'

-- a value in memory is its machine values and what they own
module _ {M : Type 1} {𝓤 : Ura M} (𝓛 : Logic 𝓤) (R : RattleType) (x : R.Denot) (b o : ℕ) where
  pub lies_in : (vs : List Val) → ent 𝓤 (sep 𝓤 (sem 𝓛 (cell_at full_share R.mir vs b o)) (sem 𝓛 (R.own_val x vs))) (sem 𝓛 (part_at R full_share x b o))
  unfolding part_of
  lies_in vs = qed 𝓛 (‵ (cell_at full_share R.mir vs b o) ∷ ‵ (R.own_val x vs) ∷ []) {P = sem 𝓛 (part_at R full_share x b o)}
      (fjoin ! $ fpack ! (List Val) (λ us. fsep (cell_at full_share R.mir us b o) (R.own_val x us)) vs $ done !)

  pub lies_out : ent 𝓤 (sem 𝓛 (part_at R full_share x b o)) (ex 𝓤 (λ (vs : List Val). sep 𝓤 (sem 𝓛 (cell_at full_share R.mir vs b o)) (sem 𝓛 (R.own_val x vs))))
  unfolding part_of
  lies_out = id⊢ 𝓤 _

abbrev pub record_vals : Record → List Val
record_vals = LL.vals R.the_type R'.the_laws

-- where record i of a table at o lies
abbrev pub record_place : ℕ → ℕ → ℕ
record_place o i = place (mem R.the_row).size (o + 8) i

module _ {M : Type 1} {𝓤 : Ura M} (𝓛 : Logic 𝓤) (h : Kept) (b o i : ℕ) (r : Record) where
  abbrev xs : List Record
  xs = h.records

  abbrev ys : List Record
  ys = set xs i r

  abbrev h' : Kept
  h' = put_record h i r

  -- the records among the fields
  abbrev back : SProp 𝓤
  back = wand 𝓤 (sem 𝓛 (part_at (Array R.the_row 8) full_share ys b (o + 8))) (sem 𝓛 (part_at K.the_row full_share h' b o))

  cut : Cut 𝓛 full_share K.the_row (Array R.the_row 8) 8 h h' xs ys (b, o)
  cut = put_at_lem 𝓛 full_share K.the_type (loosens (K.the_type).parts K'.the_laws) 1 8 refl refl (b, o) h h' ((K.struct).as_values h) ys refl refl

  -- one of them, and the way back to the table with r in its place
  abbrev pub way_back : SProp 𝓤
  way_back = wand 𝓤 (sem 𝓛 (part_at R.the_row full_share r b (record_place o i))) (sem 𝓛 (part_at K.the_row full_share h' b o))

  pub record_out : i < 8 → ent 𝓤 (sem 𝓛 (part_at K.the_row full_share h b o)) (sep 𝓤 (sem 𝓛 (part_at R.the_row full_share (record_at h i) b (record_place o i))) way_back)
  record_out below = qed 𝓛 (‵ (part_at K.the_row full_share h b o) ∷ []) {P = sep 𝓤 (sem 𝓛 (part_at R.the_row full_share (record_at h i) b (record_place o i))) way_back} (
      use1 𝓛 (‵ (part_at (Array R.the_row 8) full_share xs b (o + 8)) ⊛ raw back) cut $ split ! $
      use1 𝓛 (‵ ((arr_parts (shares R.the_row) 8).part full_share xs b (o + 8))) (Array-apart 𝓛 R.the_row full_share tt 8 xs b (o + 8)) $ fsplit ! $ feq_l ! (λ len.
      use1 𝓛 (‵ (part_at R.the_row full_share (record_at h i) b (record_place o i)) ⊛ ‵ (others (shares R.the_row) full_share xs i b (o + 8)))
      (takes (shares R.the_row) full_share 𝓛 xs i empty b (o + 8) (subst (λ (n : ℕ). i < n) (sym len) below)) $ split ! $ frame ! $
      -- [the other records; the way back to the fields]
      assume ! (‵ (part_at R.the_row full_share r b (record_place o i))) $
      use2 𝓛 (‵ (parts (mem R.the_row) (shares R.the_row) full_share ys b (o + 8))) (puts (shares R.the_row) full_share 𝓛 xs i r b (o + 8) (subst (λ (n : ℕ). i < n) (sym len) below)) $
      feq_i ! ℕ (length ys) 8 (length-set xs i r ∙ len) $ fjoin ! $
      use1 𝓛 (‵ (part_at (Array R.the_row 8) full_share ys b (o + 8))) (Array-whole 𝓛 R.the_row full_share 8 ys b (o + 8)) $
      use2 𝓛 (‵ (part_at K.the_row full_share h' b o)) (apply∗ 𝓤 (sem 𝓛 (part_at (Array R.the_row 8) full_share ys b (o + 8))) (sem 𝓛 (part_at K.the_row full_share h' b o))) $ done !))

-- the same as steps of a walk; what a record owns says what it is, and is made anew where it is wanted
module _ {M : Type 1} {𝓤 : Ura M} {𝓛 : Logic 𝓤} {T : Type 0} {Γ : List (Item 𝓤)} {G : Goal 𝓤 𝓛.H} where
  pub opens_record : T → (h : Kept) (b o i : ℕ) (r : Record) → i < 8
      → (Is R.the_row (record_at h i) (record_vals (record_at h i)) → Seq T 𝓛 (‵ (cell_at full_share (R.the_row).mir (record_vals (record_at h i)) b (record_place o i)) ∷ raw (way_back 𝓛 h b o i r) ∷ Γ) G)
      → Seq T 𝓛 (‵ (part_at K.the_row full_share h b o) ∷ Γ) G
  opens_record t h b o i r below k =
      use1 𝓛 (‵ (part_at R.the_row full_share (record_at h i) b (record_place o i)) ⊛ raw (way_back 𝓛 h b o i r)) (record_out 𝓛 h b o i r below) $ split t $
      use1 𝓛 (some (λ (vs : List Val). ‵ (cell_at full_share (R.the_row).mir vs b (record_place o i)) ⊛ ‵ ((R.the_row).own_val (record_at h i) vs))) (lies_out 𝓛 R.the_row (record_at h i) b (record_place o i)) $ pick t (λ vs. split t $
      spelt t R.the_row (Is R.the_row) (shows 𝓛 R.the_row) record_vals (LL.tells R.the_type R'.the_laws) full_share (record_at h i) vs b (record_place o i) $
      move t (1 ∷ []) $ facts t R.the_row (Is R.the_row) (shows 𝓛 R.the_row) (record_at h i) (record_vals (record_at h i)) k)

  pub shuts_record : T → (h : Kept) (b o i : ℕ) (r : Record) → Is R.the_row r (record_vals r)
      → Step T 𝓛 (‵ (part_at K.the_row full_share (put_record h i r) b o) ∷ Γ) G (‵ (cell_at full_share (R.the_row).mir (record_vals r) b (record_place o i)) ∷ raw (way_back 𝓛 h b o i r) ∷ Γ) G
  shuts_record t h b o i r is = step (λ s.
      owned t R.the_row (Is R.the_row) (LL.makes R.the_type R'.the_plain 𝓛) r (record_vals r) is $ move t (1 ∷ 0 ∷ []) $
      use2 𝓛 (‵ (part_at R.the_row full_share r b (record_place o i))) (lies_in 𝓛 R.the_row r b (record_place o i) (record_vals r)) $
      use2 𝓛 (‵ (part_at K.the_row full_share (put_record h i r) b o)) (apply∗ 𝓤 (sem 𝓛 (part_at R.the_row full_share r b (record_place o i))) (sem 𝓛 (part_at K.the_row full_share (put_record h i r) b o))) $ s)

-- Document 01, "Sweep and listing", second paragraph: what a sweep writes, and its refusals 21, 22 and 26.
use Rattle.std.specs.Prelude.{ℕ, zero, suc, ◌+◌, Bool, true, false, List, [], ◌∷◌, map, ℤ, pos, length, get_or, eqb, leb, ltb, Result, Ok, Err}
use Rattle.catalogue.specs.Tests.{pick}
use Rattle.catalogue.specs.Numbers.{head, tail, edge_tail, least, plain, added, link}
use Rattle.catalogue.specs.Catalogue.{Catalogue, edge_key, edge_target, at_target}
use Rattle.catalogue.specs.Workers.{busy}
use Rattle.catalogue.specs.Calls.{count_fits}
use Rattle.catalogue.specs.Live.{live_vertices, live_edges, live_keys}
use Rattle.catalogue.specs.Soundness.{sound, sweep}
use Rattle.catalogue.specs.declared.workers.Table.{Table}
use Rattle.catalogue.specs.declared.answers.Refusal.{Refusal}
use Rattle.catalogue.specs.declared.answers.Refusal.TheVariants as refusal

-- The place of a number in a list, counted from a first number; past the end where it is not in the list.
unfoldable pub position : ℕ → List ℕ → ℕ → ℕ
position n [] from = from
position n (x ∷ xs) from = elim (eqb n x) [ true ↦ from | false ↦ position n xs (suc from) ]

-- The new number of a live vertex: from 2 on, in the order of the list, which is by key.
abbrev pub renumbered : Catalogue → ℕ → ℕ
renumbered C x = position x (live_vertices C) 2

-- A live edge under the new numbers.
pub record SweptEdge : Type 0 where
  pub source : ℕ
  pub target : ℕ
  pub key : ℤ

abbrev pub swept_edge : Catalogue → ℕ → ℕ → SweptEdge
swept_edge C x e = record {
  source = renumbered C x;
  target = at_target (edge_target C e) 0 (renumbered C);
  key = edge_key C e;
}

-- All of them, by source and then by target key; the first one gets number 1.
abbrev pub swept_edges : Catalogue → List SweptEdge
swept_edges C = map (λ d. swept_edge C d.source d.edge) (live_edges C)

-- the number of the first edge with a given source, counted from a first number; the tail if there is none
unfoldable pub first_of : ℕ → List SweptEdge → ℕ → ℕ
first_of x [] n = edge_tail
first_of x (e ∷ es) n = elim (eqb x e.source) [ true ↦ n | false ↦ first_of x es (suc n) ]

-- of n swept vertices the number after vertex i, or the tail
unfoldable pub next_swept : ℕ → ℕ → ℕ
next_swept n i = pick (ltb (suc i) (2 + n)) (suc i) tail

abbrev pub source_at : List SweptEdge → ℕ → ℕ
source_at es e = get_or (0 ∷ map (λ d. d.source) es) e 0

-- the number after edge e if that has the same source, or the tail
unfoldable pub next_swept_edge : List SweptEdge → ℕ → ℕ
next_swept_edge es e = pick (eqb (source_at es e) (source_at es (suc e))) (suc e) edge_tail

-- the links of n such vertices, and of such edges
abbrev pub vlink_of : ℕ → ℕ → ℕ
vlink_of n i = pick (eqb i head) (link (next_swept n tail) plain) (pick (leb 2 i) (pick (ltb i (2 + n)) (link (next_swept n i) plain) 0) 0)

abbrev pub elink_of : List SweptEdge → ℕ → ℕ
elink_of es e = pick (leb 1 e) (pick (leb e (length es)) (link (next_swept_edge es e) added) 0) 0

-- The catalogue that holds keys, with numbers from 2 on, and edges, with numbers from 1 on.
-- What none of them takes is as in the fresh one.
unfoldable pub held : List ℤ → List SweptEdge → Catalogue
held keys es = record {
  counts = record { vertices = length keys; edges = length es };
  vertices = record { key = get_or_of (least ∷ pos 0 ∷ keys); link = vlink_of (length keys); first = λ i. link (first_of i es 1) plain };
  edges = record { key = get_or_of (pos 0 ∷ map (λ d. d.key) es); target = λ e. get_or (0 ∷ map (λ d. d.target) es) e 0; link = elink_of es };
}
  where
    get_or_of : List ℤ → ℕ → ℤ
    get_or_of keys i = get_or keys i (pos 0)

-- The second catalogue: it holds the live vertices and edges.
abbrev pub swept : Catalogue → Catalogue
swept C = held (live_keys C) (swept_edges C)

-- 22: a worker below a number is busy.
unfoldable pub any_busy : Table → ℕ → Bool
any_busy t zero = false
any_busy t (suc n) = pick (busy t n) true (any_busy t n)

-- The second catalogue after a sweep, and the answer. The first catalogue and the table are unchanged.
pub record AfterSweep : Type 0 where
  pub second : Catalogue
  pub answer : Result (Unit {0}) Refusal

abbrev pub refuse_sweep : Catalogue → Refusal → AfterSweep
refuse_sweep D r = record { second = D; answer = Err r }

-- A sweep from C into D: 21, 22, 26.
unfoldable pub sweep_into : Catalogue → Catalogue → Table → AfterSweep
sweep_into C D t =
    pick (count_fits t.count)
    (pick (any_busy t t.count) (refuse_sweep D refusal.Busy)
    (pick (sound sweep C) (record { second = swept C; answer = Ok tt }) (refuse_sweep D refusal.Torn)))
    (refuse_sweep D refusal.Worker)

-- A text read line by line. Assumes nothing.
use Rattle.std.proofs.Common.{◌≡◌, ℕ, ◌+◌, ◌<◌, Bool, false, List, [], ◌∷◌, ◌++◌, Some, None, Ok, Err, Option, Bor, length, drop, sym, refl, ap, ◌∙◌, append_assoc, append-nil, arith, ⊎_elim, subst}
use Rattle.std.specs.Fn.{CalledAt}
use Rattle.std.specs.Iterator.{Yields}
use Rattle.std.specs.Iterator.Adapters.{enumerate_source, enumerate_count, enumerate_steps}
use Rattle.std.specs.List.{slice_split}
use Rattle.std.specs.Slice.Iter.{split_rest, split_done, split_callee, split_steps}
use Rattle.std.proofs.lemmas.Iterator.Consumers.{YieldsList-from_enumerate, YieldsList-at, YieldsList-turn, YieldsList-end}
use Rattle.std.proofs.lemmas.Iterator.Splits.{YieldsList-from_slice_split}
use Rattle.std.proofs.lemmas.List.{at_drop_more, at_drop_all}
use Rattle.std.proofs.lemmas.List.FromFn.{length-enumerate_from, get_or-enumerate_from}
use Rattle.loads.specs.declared.Load.{Load}
use Rattle.loads.specs.declared.line.Malformed.{Malformed}
use Rattle.loads.specs.Pieces.{newline, pieces, filled}
use Rattle.loads.specs.Lines.{Line, said, line_of}
use Rattle.loads.specs.Loads.{Reading, loads, malformed, with_load, with_line, reading, loads_of}
use Rattle.loads.proofs.Cuts.{parts}
use denote.Param.Members.{Mut}

-- the parts of a text, as `split` gives them
abbrev pub parted : List ℕ → List (List ℕ)
parted bs = slice_split newline bs

-- an empty line at the end says nothing
end_blank : (n : ℕ) (ls : List (List ℕ)) → reading n (ls ++ [] ∷ []) ≡ reading n ls
unfolding reading said pieces filled
end_blank n [] = refl
end_blank n (bs ∷ ls) = ap (with_line n bs (line_of bs)) (end_blank (n + 1) ls)

-- so the parts of a text are read as its lines are
read_parts : (bs : List ℕ) → reading 1 (parted bs) ≡ loads_of bs
read_parts bs = ⊎_elim (λ e. ap (reading 1) e) (λ e. ap (reading 1) e ∙ end_blank 1 _) (parts newline bs)

-- what the answer after k others tells, of an iterator over the parts of a text and their indices
pub record Told (bs : List ℕ) (k : ℕ) (r : Option (ℕ × Bor (List ℕ))) : Type 0 where
  pub some : (before : ℕ) (line : Bor (List ℕ)) → r ≡ Some (before, line) → (before ≡ k) × (drop k (parted bs) ≡ line.now ∷ drop (k + 1) (parted bs))
  pub none : r ≡ None → drop k (parted bs) ≡ []

pub each_line : {F : Type 0} {cuts : Mut F (Bor ℕ × Unit {0}) Bool} {s i p : _} (t u : _) {f : F} (seen : List (ℕ × Bor (List ℕ))) (r : Option (ℕ × Bor (List ℕ))) (bs : List ℕ)
    → Yields (enumerate_steps (split_steps cuts)) s seen t → enumerate_steps (split_steps cuts) t r u
    → s ≡ i → enumerate_source i ≡ p → enumerate_count i ≡ 0 → split_rest p ≡ bs → split_done p ≡ false → split_callee p ≡ f
    → ((x : ℕ) (b : Bool) (q : F) → CalledAt cuts f x b q → (q ≡ f) × (b ≡ newline x))
    → Told bs (length seen) r
each_line {cuts = cuts} t u seen r bs before next same source count rest done cutter cut =
    let ls = parted bs in
    let come = YieldsList-at same (YieldsList-from_enumerate (YieldsList-at source (YieldsList-from_slice_split cuts newline bs rest done cutter cut)) count) in
    record {
      some = λ n line e.
          let (inside, is) = YieldsList-turn come seen t before r u (n, line) e next in
          let within = subst (λ m. length seen < m) (length-enumerate_from 0 ls) inside in
          let at = is ∙ get_or-enumerate_from 0 ls (length seen) (n, line.now) within in
          (omega (arith, ap (λ p. p.0) at), at_drop_more (λ l. l) ls (length seen) line.now within ∙ ap (λ w. w ∷ drop (length seen + 1) ls) (sym (ap (λ p. p.1) at)));
      none = λ e. at_drop_all (λ l. l) ls (length seen) (omega (arith, (YieldsList-end come seen t before r u e next).1, length-enumerate_from 0 ls));
    }

-- a reading with more loads in front
abbrev pub with_loads : List Load → Reading → Reading
with_loads xs (loads ys) = loads (xs ++ ys)
with_loads xs (malformed n bs) = malformed n bs

one_more : (xs : List Load) (x : Load) (r : Reading) → with_loads (xs ++ x ∷ []) r ≡ with_loads xs (with_load x r)
one_more xs x (loads ys) = ap loads (append_assoc xs (x ∷ []) ys)
one_more xs x (malformed n bs) = refl

none_before : (r : Reading) → with_loads [] r ≡ r
none_before (loads ys) = refl
none_before (malformed n bs) = refl

-- xs are the loads of a text before its part k, and the parts from there on give the rest
pub record Sofar (bs : List ℕ) (xs : List Load) (k : ℕ) : Type 0 where
  pub gives : with_loads xs (reading (k + 1) (drop k (parted bs))) ≡ loads_of bs

pub at_start : (bs : List ℕ) (xs : List Load) → xs ≡ [] → Sofar bs xs 0
at_start bs xs none = record { gives = rw none (none_before _ ∙ read_parts bs) }

module _ {bs : List ℕ} {xs : List Load} {k : ℕ} (old : Sofar bs xs k) where
  pub at_end : drop k (parted bs) ≡ [] → loads_of bs ≡ loads xs
  unfolding reading
  at_end none = sym old.gives ∙ ap (λ ls. with_loads xs (reading (k + 1) ls)) none ∙ ap loads (append-nil xs)

  -- the part k is front
  module _ {front : List ℕ} (next : drop k (parted bs) ≡ front ∷ drop (k + 1) (parted bs)) where
    on : (says : Line) → says ≡ line_of front → with_loads xs (with_line (k + 1) front says (reading (k + 1 + 1) (drop (k + 1) (parted bs)))) ≡ loads_of bs
    unfolding reading
    on says e =
        ap (λ s. with_loads xs (with_line (k + 1) front s (reading (k + 1 + 1) (drop (k + 1) (parted bs))))) e
        ∙ sym (ap (λ ls. with_loads xs (reading (k + 1) ls)) next)
        ∙ old.gives

    pub at_blank : (n : ℕ) → n ≡ k + 1 → Ok None ≡ line_of front → Sofar bs xs n
    at_blank n one e = record { gives = rw one (on _ e) }

    pub at_load : (n : ℕ) → n ≡ k + 1 → (x : Load) → Ok (Some x) ≡ line_of front → Sofar bs (xs ++ x ∷ []) n
    at_load n one x e = record { gives = rw one (one_more xs x _ ∙ on _ e) }

    pub at_malformed : (m : Malformed) (n : ℕ) → n ≡ k → Err m ≡ line_of front → loads_of bs ≡ malformed (n + 1) front
    at_malformed m n same e = sym (on _ e) ∙ ap (λ i. malformed (i + 1) front) (sym same)

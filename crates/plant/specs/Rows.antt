-- Rows of four elements of a field: sums and multiples by place, and their bytes. Assumes nothing.
use Rattle.std.specs.Prelude.{◌+◌, ◌*◌, ◌++◌, take, drop, option_map}
use Rattle.std.specs.Option.{option_zip}
use Rattle.algebra.specs.Structures.{FieldOps, GroupOps}
use Rattle.algebra.specs.Codec.{Codec}
use Rattle.plant.specs.declared.row.Row.{Row}

pub record RowOf (E : Type 0) : Type 0 where
  pub w : E
  pub x : E
  pub y : E
  pub z : E

abbrev pub row_of : {E : Type 0} → E → E → E → E → RowOf E
row_of w x y z = record { w = w; x = x; y = y; z = z }

-- What a row of values means.
abbrev pub row_meant : {F E : Type 0} → (F → E) → Row F → RowOf E
row_meant f r = row_of (f r.w) (f r.x) (f r.y) (f r.z)

-- Sums by place.
abbrev pub rows : {E : Type 0} → FieldOps E → GroupOps (RowOf E)
rows K = record {
  zero = row_of K.zero K.zero K.zero K.zero;
  add = λ r s. row_of (K.add r.w s.w) (K.add r.x s.x) (K.add r.y s.y) (K.add r.z s.z);
  neg = λ r. row_of (K.neg r.w) (K.neg r.x) (K.neg r.y) (K.neg r.z);
}

-- Multiples by place.
abbrev pub scale_row : {E : Type 0} → FieldOps E → E → RowOf E → RowOf E
scale_row K s r = row_of (K.mul s r.w) (K.mul s r.x) (K.mul s r.y) (K.mul s r.z)

-- Two codes, one behind the other.
abbrev pub joined : {X Y : Type 0} → Codec X → Codec Y → Codec (X × Y)
joined c d = record {
  size = c.size + d.size;
  encode = λ p. c.encode p.0 ++ d.encode p.1;
  decode = λ bytes. option_zip (c.decode (take c.size bytes)) (d.decode (drop c.size bytes));
}

-- Four codes, one behind the other: two pairs.
abbrev pub four : {E : Type 0} → Codec E → Codec ((E × E) × (E × E))
four c = joined (joined c c) (joined c c)

-- The numbers of a row in order.
abbrev pub row_codec : {E : Type 0} → Codec E → Codec (RowOf E)
row_codec c = record {
  size = 4 * c.size;
  encode = λ r. (four c).encode ((r.w, r.x), (r.y, r.z));
  decode = λ bytes. option_map (λ ((w, x), (y, z)). row_of w x y z) ((four c).decode bytes);
}

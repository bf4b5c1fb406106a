-- The bench setup: element k is (k + 2)² modulo 503, for k from 0 to 64. Assumes nothing.
use Rattle.std.specs.Prelude.{ℕ, ◌+◌, ◌*◌, ◌%◌, List, map}
use Rattle.std.specs.List.{range_with_len}

abbrev pub bench_value : ℕ → ℕ
bench_value k = (k + 2) * (k + 2) % 503

abbrev pub bench_values : List ℕ
bench_values = map bench_value (range_with_len 0 65)

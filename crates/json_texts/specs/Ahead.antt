-- The stops of a string that were seen ahead.
use Rattle.std.specs.Prelude.{◌≡◌, ◌≤◌, ◌-◌, ℕ, List, length, take, drop, map}
use Rattle.std.specs.Simd.Lanes.{mask_l}
use Rattle.json.specs.Run.{is_stop}

-- the bits of a mask are the stops from a place on, as far as they are seen
pub record IsAhead (text : List ℕ) (at mask : ℕ) : Type 0 where
  pub lanes : ℕ
  pub few : lanes ≤ 64
  pub within : lanes ≤ length text - at
  pub seen : mask ≡ mask_l (map is_stop (take lanes (drop at text)))

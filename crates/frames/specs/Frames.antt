-- How a frame is kept: its bytes, and 0 in each place after them.
use Rattle.std.specs.Prelude.{◌≡◌, ℕ, ◌-◌, ◌≤◌, List, ◌++◌, length, take, drop, replicate}
use Rattle.std.proofs.Common.{arith}
use Rattle.std.proofs.lemmas.List.{length-take-le, take-append-drop}
use Rattle.frames.specs.FrameSize.{FitsFrame}
use Rattle.frames.specs.declared.frame.Frame.TheInside.{Inside}

-- The bytes of a frame.
abbrev pub frame_bytes : Inside → List ℕ
frame_bytes f = take f.len f.bytes

pub record IsFrame (f : Inside) : Type 0 where
  pub full : length f.bytes ≡ 10
  pub few : f.len ≤ 10
  pub fits : FitsFrame (frame_bytes f)
  pub unused : drop f.len f.bytes ≡ replicate (10 - f.len) 0

-- The frame that has these bytes.
abbrev pub frame_of : List ℕ → Inside
frame_of bytes = record { bytes = bytes ++ replicate (10 - length bytes) 0; len = length bytes }

-- A frame is found again from its bytes.
pub frame_of-frame_bytes : (f : Inside) → IsFrame f → frame_of (frame_bytes f) ≡ f
frame_of-frame_bytes f is =
    let full = is.full in
    let few = is.few in
    let n : length (take f.len f.bytes) ≡ f.len = length-take-le f.len f.bytes (omega arith) in
    rw (n, ← is.unused, take-append-drop f.len f.bytes)

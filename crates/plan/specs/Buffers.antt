-- A writer with a buffer before it.
use Rattle.std.specs.Prelude.{List, ℕ, Option}
use Rattle.std.specs.Io.KnownBytes.{append_known}
use Rattle.plan.specs.declared.buffered.Buffered.{Buffered}

-- what lies in the buffer
abbrev pub held : {W : Type 0} {N : ℕ} → Buffered W N → List ℕ
held b = b.bytes.items

-- what was written: what the inner writer has, where that is known, and then what lies in the buffer
abbrev pub written : {W : Type 0} {N : ℕ} → (contents : W → Option (List ℕ)) → Buffered W N → Option (List ℕ)
written contents b = append_known (contents b.inner) (held b)

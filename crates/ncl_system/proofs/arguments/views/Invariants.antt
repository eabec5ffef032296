use Rattle.std.proofs.Common.{◌≡◌, map, take, string_bytes}
use Rattle.ncl_system.proofs.arguments.views.Given as goal

-- the views so far are those of the arguments so far
abbrev pub invariant-loop-argument : goal.invariant-loop-argument
invariant-loop-argument l = map (λ view. view.now) l.views.items ≡ map (λ argument. string_bytes argument) (take l.argument-index l.arguments)

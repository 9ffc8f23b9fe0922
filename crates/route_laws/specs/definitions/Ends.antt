-- The ends of a route told apart, by one number each.
use Rattle.std.specs.Prelude.{Bool, ℕ, eqb}
use Rattle.route_bus.specs.declared.End.{End}
use Rattle.route_bus.specs.declared.End.TheVariants.{Node, Owner, Host, Unclaimed, Clash, Special, Silent}

-- the number of the answer to an access that ends so; 0 at a node, where its register is still to be read or written
abbrev pub end_number : End → ℕ
end_number (Node g) = 0
end_number (Owner g r o) = 3
end_number (Host o) = 4
end_number (Unclaimed holder o) = 5
end_number (Clash holder y z) = 6
end_number (Special holder) = 12
end_number Silent = 7

-- a node's registers are reached
abbrev pub ends_at_node : End → Bool
ends_at_node e = eqb (end_number e) 0

-- two or more claim
abbrev pub is_clash : End → Bool
is_clash e = eqb (end_number e) 6

-- nothing was driven
abbrev pub is_silent : End → Bool
is_silent e = eqb (end_number e) 7

-- a special cycle
abbrev pub is_special : End → Bool
is_special e = eqb (end_number e) 12

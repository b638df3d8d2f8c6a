-- The links of the real world.
use Rattle.demi_core.specs.World.{Link}
use Rattle.demi_net.specs.Real.{real_link}
use Rattle.demi_net.specs.declared.stream_in.StreamIn.{StreamIn}
use Rattle.demi_net.specs.declared.stream_out.StreamOut.{StreamOut}

-- what a world says of a link over two real ends
abbrev pub link_of : StreamIn × StreamOut → Link
link_of link = real_link link.0.given_bytes link.0.faults link.1.faults

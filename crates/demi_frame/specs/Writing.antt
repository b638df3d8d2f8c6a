-- The request that a caller gives to be written.
use Rattle.demi_spec.specs.Request as asked
use Rattle.demi_frame.specs.declared.request.Request.{Request}
use Rattle.demi_frame.specs.declared.request.Request.TheVariants.{Put, Get, End}

abbrev pub asks : Request → asked.Request
asks (Put key value) = asked.Put key.items value.items
asks (Get key) = asked.Get key.items
asks End = asked.End

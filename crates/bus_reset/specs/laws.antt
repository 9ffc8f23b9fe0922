pub mod WayUp

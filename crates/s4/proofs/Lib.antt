mod Undone
mod Unread
